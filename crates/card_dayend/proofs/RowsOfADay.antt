-- The rows and accruals of a day are those of its book.
use Rattle.std.proofs.Common.{◌*◌, ◌≡◌, ℕ, ◌+◌, ◌-◌, ◌<◌, ◌≤◌, Bool, true, false, cond, ◌&&◌, eqb, ltb, leb, List, [], ◌∷◌, ◌++◌, Option, Some, None, map, length, get_or, refl, sym, ap, ◌∙◌, subst, arith, ℤ, pos, ◌+ℤ◌, ◌⊎◌, inl, inr, drop}
use Rattle.std.specs.List.{All, Contains}
use Rattle.std.specs.Prelude.{◌≤ℤ◌, neg_ℤ}
use Rattle.std.proofs.lemmas.Bool.{cases_lt, ne_eqb}
use Rattle.std.proofs.lemmas.Bool.Decides.{nat_tests}
use Rattle.std.proofs.lemmas.Int.{ints}
use Rattle.std.proofs.lemmas.List.{get_or_past}
use Rattle.std.proofs.lemmas.List.Elements.{All-cons, All-contains_itself, All-head, All-map, All-nil, All-tail, All-weaker}
use Rattle.std.proofs.lemmas.List.FromFn.{length-map-range_with_len}
use Rattle.card_bounds.specs.Bounds.{AreSmall}
use Rattle.card_bounds.proofs.Dated.{Added, IsPlain, TooLate, added-none, added-weaker, posted-counts, posted_after, row-front}
use Rattle.card_events.specs.Range.{last_request_day}
use Rattle.card_effects.specs.Standing.{AreRated}
use Rattle.card_model.specs.Limits.{balance_limit}
use Rattle.card_events.specs.Money.{daily}
use Rattle.card_closing.specs.Accruals.{Accrued, accrued_in, nothing_accrued}
use Rattle.card_closing.specs.BookRows.{day_row, rate_of, rows_of}
use Rattle.card_closing.specs.Growth.{with_repaid}
use Rattle.card_closing.specs.Rows.{DayRow, Rows, row_of, with_days}
use Rattle.card_closing.proofs.Accruing.{accrual_of_a_book}
use Rattle.card_closing.proofs.Growing.{rows_grow}
use Rattle.card_model.specs.Books.{Book, rate_in}
use Rattle.card_model.specs.Entries.{AreBalances, at_least_zero, balance, owing, sum_of}
use Rattle.card_model.specs.Interest.{is_in_row, row}
use Rattle.card_events.specs.History.{CorrectedPost}
use Rattle.card_events.specs.SharedRows.{IndexRow}
use Rattle.card_model.specs.Payments.{is_returned}
use Rattle.card_model.specs.Rates.{accrual_rate, index_for, rate_on}
use Rattle.card_model.specs.Segments.{SegmentTerms, is_deferred_on, is_over, is_sort, kept_segment}
use Rattle.card_model.specs.declared.entry.Entry.{Entry}
use Rattle.card_model.specs.declared.segment.Interval.{Interval}
use Rattle.card_model.specs.declared.segment.Sort.TheVariants as sort
use Rattle.card_model.proofs.Posted.{sum_of-append}
use Rattle.card_rates.specs.RateBooks.{AreByNumber, Rates, rates_of}
use Rattle.card_rates.specs.RateBooks.{rate_of as rate_in_force}
use Rattle.card_rates.proofs.ByNumber.{at-place, number-above, number-below}
use Rattle.card_rates.proofs.DayLaws.{rates_of_a_day, segments_of_a_day}
use Rattle.card_segments.specs.Balances.{AreWithin, IsWithin}
use Rattle.card_daily.specs.Given.{Given, IsSound, account_in, opened_in, row_in, seen_in}
use Rattle.card_dayend.specs.Rows.{each_with, owed_on, with_accrual_at, with_accruals, with_row, with_rows}
use Rattle.card_daily.specs.Stands.{AreAmid, ArePosted, HaveAccrued, StandFor, before, first_in, posted, posts_of, returned_by, rows_amid, rows_through}
use Rattle.card_daily.specs.declared.state.State.{State}
use Rattle.card_daily.specs.declared.track.Track.{Track}
use Rattle.card_daily.proofs.Books.{day-is}
use Rattle.card_daily.proofs.Cycles.{amid-added, before-dated, first-by, first-within, posted-folded}
use Rattle.card_daily.proofs.Penalized.{earlier-starts}
use Rattle.card_daily.proofs.Repaying.{same-brought}
use Rattle.card_daily.proofs.Returning.{returned-all}
use Rattle.card_dayend.proofs.Each.{each-at, each-length, each-map, no_segment, same-map}

-- ---- rows of earlier days
sum-late : (s x : ℕ) (es : List Entry) → All (TooLate x) es → sum_of (is_in_row s x) es ≡ pos 0
sum-late s x [] h = refl
sum-late s x (e ∷ es) h =
    let here = All-head (TooLate x) e es h in
    let rest = sum-late s x es (All-tail (TooLate x) e es h) in
    rw (here, never (eqb e.segment s), rest) refl
  where
    never : (t : Bool) → (t && false) ≡ false
    never true = refl
    never false = refl

-- what comes too late for a day isn't in its row
late-row : (s x : ℕ) (es new : List Entry) → Added (TooLate x) es new → row new s x ≡ row es s x
unfolding row
late-row s x es new a =
    let split = sum_of-append (is_in_row s x) es a.rest in
    let whole : sum_of (is_in_row s x) (es ++ a.rest) ≡ sum_of (is_in_row s x) es = split ∙ rw (sum-late s x a.rest a.all) (plus (sum_of (is_in_row s x) es)) in
    ap (λ l. at_least_zero (sum_of (is_in_row s x) l)) a.is ∙ ap at_least_zero whole
  where
    plus : (z : ℤ) → z +ℤ pos 0 ≡ z
    plus z = omega (arith, ints)

later-late : (d x : ℕ) (e : Entry) → d < x → IsPlain x e → TooLate d e
later-late d x e l q =
    let w = q.0 in
    let t : ltb e.day d ≡ false = grind (arith, nat_tests) in
    let u : eqb e.day d ≡ false = ne_eqb e.day d (λ z. omega arith) in
    rw (t, u) refl

-- a day leaves the rows of earlier days as they are
pub earlier-row : (g : Given) (day d s : ℕ) → opened_in g ≤ day → d < day → row (posted g day).entries s d ≡ row (before g day).entries s d
earlier-row g day d s o l =
    late-row s d (before g day).entries (posted g day).entries
    (added-weaker (IsPlain day) (TooLate d) (before g day).entries (posted g day).entries (λ e q. later-late d day e l q) (amid-added g day (posts_of g day) o))

-- its own row is what is owed after its posts
pub row-today : (g : Given) (day s : ℕ) → opened_in g ≤ day → row (posted g day).entries s day ≡ owing s (posted g day).entries
row-today g day s o =
    let n = day - opened_in g in
    let b = before g day in
    let e = day-is (opened_in g) day o in
    let counts = posted-counts (row_in g n) (account_in g) (seen_in g (opened_in g + n)) b day e (before-dated g day o) in
    let es = (posted_after g.issued (account_in g) (seen_in g) n).entries in
    subst (λ (b : Book). row b.entries s day ≡ owing s b.entries) (sym (posted-folded g day o)) (row-front s day es es counts (added-none (TooLate day) es))

-- ---- rates
abbrev pub rates_by : Given → List Interval → Rates
rates_by g penalties = rates_of g.shared.holidays g.history penalties

-- the rate of an earlier day is what it was
earlier-rate : (g : Given) (day d : ℕ) (t : SegmentTerms) → IsSound g → opened_in g ≤ day → d + 1 ≤ day
    → rate_in (account_in g) (seen_in g day) (posted g day) d t ≡ rate_in (account_in g) (seen_in g (day - 1)) (before g day) d t
earlier-rate g day d t s o l =
    let r = rates_by g [] in
    sym (rates_of_a_day.any g.history g.issued g.shared (posted g day) d day t (omega arith))
    ∙ (ap (λ began. rate_on (index_for r.variable g.shared.index d) r.lowerings r.penalty began r.segments d t) (earlier-starts g day d o l) ∙ rates_of_a_day.any g.history g.issued g.shared (before g day) d (day - 1) t (omega arith))

-- ---- a row more
abbrev day_row_of : ℕ → ℕ → ℕ → DayRow
day_row_of day owed rate = row_of owed (rate_of owed rate) day

earlier-day : (g : Given) (day d : ℕ) (t : SegmentTerms) → IsSound g → opened_in g ≤ day → d + 1 ≤ day
    → day_row (account_in g) (seen_in g day) (posted g day) t d ≡ day_row (account_in g) (seen_in g (day - 1)) (before g day) t d
earlier-day g day d t s o l =
    ap (λ x. day_row_of d x (rate_in (account_in g) (seen_in g day) (posted g day) d t)) (earlier-row g day d t.id o (omega arith))
    ∙ ap (λ r. day_row_of d (row (before g day).entries t.id d) r) (earlier-rate g day d t s o l)

today : (g : Given) (day : ℕ) (t : SegmentTerms) → opened_in g ≤ day
    → day_row (account_in g) (seen_in g day) (posted g day) t day ≡ day_row_of day (owing t.id (posted g day).entries) (rate_in_force g.shared.index (rates_by g (posted g day).penalties) day t)
today g day t o =
    ap (λ x. day_row_of day x (rate_in (account_in g) (seen_in g day) (posted g day) day t)) (row-today g day t.id o)
    ∙ ap (λ r. day_row_of day (owing t.id (posted g day).entries) r) (sym (rates_of_a_day.any g.history g.issued g.shared (posted g day) day day t (omega arith)))

pub row-more : (g : Given) (day : ℕ) (t : SegmentTerms) → IsSound g → opened_in g ≤ day → day ≤ last_request_day
    → rows_through g (first_in g day) day (posted g day) t ≡ with_row g.shared.index 1 (rates_by g (posted g day).penalties) day t (owing t.id (posted g day).entries) (rows_amid g day (posts_of g day) (posted g day) t)
row-more g day t s o l =
    let owed = owing t.id (posted g day).entries in
    let rate = rate_of owed (rate_in_force g.shared.index (rates_by g (posted g day).penalties) day t) in
    let first = first-by g day s o (omega arith) in
    let low = s.opening.first in
    rows_grow.days 1 owed rate (first_in g day) (account_in g) t (seen_in g (day - 1)) (seen_in g day) (before g day) (posted g day)
    (record {
      begun = omega arith;
      day = omega arith;
      before = λ d m n. earlier-day g day d t s o (omega arith);
      since = λ d m n. let same : day ≡ d = omega arith in
          subst (λ x. day_row (account_in g) (seen_in g day) (posted g day) t x ≡ row_of owed rate x) same (today g day t o);
    })
    ∙ ap (λ r. with_days 1 owed rate (with_repaid r (rows_through g (first_in g day) (day - 1) (before g day) t)))
    (same-brought t.id (first_in g day) (λ n. is_returned (seen_in g day).posts day n) (returned_by g day (posts_of g day)) (λ n. returned-all g day n (omega (arith, low))) (posted g day).entries)

-- rows amid a day have room for one more
pub rows-room : (g : Given) (day : ℕ) (done : List CorrectedPost) (b : Book) (t : SegmentTerms) → IsSound g → opened_in g ≤ day → day ≤ last_request_day → length (rows_amid g day done b t).days + 1 ≤ 31
unfolding rows_of
rows-room g day done b t s o l =
    let long = length-map-range_with_len (day_row (account_in g) (seen_in g (day - 1)) (before g day) t) (first_in g day) (day - 1 + 1 - first_in g day) in
    let within = first-within g day s o (omega arith) in
    let low = s.opening.first in
    omega (arith, long, within)

-- ---- accruals
pub over-later : (ends : Option ℕ) (day : ℕ) → is_over ends day ≡ false → is_over ends (day - 1) ≡ false
over-later None day e = e
over-later (Some end) day e = grind (arith, nat_tests)

pub deferred-by : (t : SegmentTerms) (day : ℕ) (b : Bool) → is_sort sort.Deferred t.sort ≡ true → is_over t.ends day ≡ false → leb t.begins day ≡ b → is_deferred_on day t ≡ b
deferred-by t day true e f q = rw (e, f, q) refl
deferred-by t day false e f q = rw (e, f, q) refl

pub accrual-more : (g : Given) (day : ℕ) (t : SegmentTerms) → IsSound g → opened_in g ≤ day → is_sort sort.Deferred t.sort ≡ true → is_over t.ends day ≡ false
    → with_accrual_at 1 (accrual_rate day t) (owing t.id (posted g day).entries) (accrued_in (seen_in g (day - 1)) (before g day) t) ≡ accrued_in (seen_in g day) (posted g day) t
accrual-more g day t s o e f = by (cases_lt day t.begins)
  where
    old : Accrued
    old = accrued_in (seen_in g (day - 1)) (before g day) t

    owed : ℕ
    owed = owing t.id (posted g day).entries

    rated : (b : Bool) → leb t.begins day ≡ b → with_accrual_at 1 (accrual_rate day t) owed old ≡ with_accrual_at 1 (cond b (Some t.rate) None) owed old
    rated b q = ap (λ d. with_accrual_at 1 (cond d (Some t.rate) None) owed old) (deferred-by t day b e f q)

    by : (day < t.begins) ⊎ (t.begins ≤ day) → with_accrual_at 1 (accrual_rate day t) owed old ≡ accrued_in (seen_in g day) (posted g day) t
    by (inl l) =
        let low = s.opening.first in
        let q : leb t.begins day ≡ false = grind (arith, nat_tests) in
        rated false q
        ∙ (accrual_of_a_book.begins (seen_in g (day - 1)) (before g day) t (omega arith)
        ∙ sym (accrual_of_a_book.begins (seen_in g day) (posted g day) t (omega arith)))
    by (inr l) =
        let low = s.opening.first in
        let q : leb t.begins day ≡ true = grind (arith, nat_tests) in
        rated true q
        ∙ sym (accrual_of_a_book.grows 1 owed t (seen_in g (day - 1)) (seen_in g day) (before g day) (posted g day)
        (record {
          begun = omega arith;
          day = omega arith;
          before = λ d m n. earlier-row g day d t.id o (omega arith);
          since = λ d m n. let same : day ≡ d = omega arith in subst (λ x. row (posted g day).entries t.id x ≡ owed) same (row-today g day t.id o);
        }))

-- ---- what is kept before the row
-- a balance within 10^15 cents
abbrev IsSmall : ℤ → Type 0
IsSmall z = (neg_ℤ (pos 999999999999999) ≤ℤ z) × (z ≤ℤ pos 999999999999999)

wider : (z : ℤ) → IsSmall z → IsWithin balance_limit z
wider z (a, b) = (omega (arith, ints), omega (arith, ints))

nothing-within : IsWithin balance_limit (pos 0)
nothing-within = (omega (arith, ints), omega (arith, ints))

pub balances-within : (entries : List Entry) (balances : List ℤ) → AreBalances entries balances → AreSmall entries → AreWithin balance_limit balances
balances-within entries balances h small s = by (cases_lt s (length balances))
  where
    by : (s < length balances) ⊎ (length balances ≤ s) → IsWithin balance_limit (get_or balances s (pos 0))
    by (inl l) = subst (IsWithin balance_limit) (sym (h.each s l)) (wider (balance s entries) (small s))
    by (inr l) = subst (IsWithin balance_limit) (sym (get_or_past balances s (pos 0) l)) nothing-within

pub amid-rated : (g : Given) (rows_by : SegmentTerms → Rows) (b : Book) (s : State) (t : Track) → StandFor g rows_by b s t → AreRated s.segments.segments s.rates
amid-rated g rows_by b s t h = record {
  kept = ap (drop 2) h.segments ∙ ap (λ (r : Rates). map kept_segment r.segments) (sym h.rates);
  numbers = subst (λ (r : Rates). AreByNumber 2 r.segments) (sym h.rates) (segments_of_a_day.numbers g.shared.holidays g.history);
}

abbrev HasRoom : Rows → Type 0
HasRoom r = length r.days + 1 ≤ 31

pub amid-room : (g : Given) (day : ℕ) (done : List CorrectedPost) (b : Book) (s : State) (t : Track) → IsSound g → opened_in g ≤ day → day ≤ last_request_day → StandFor g (rows_amid g day done b) b s t → All HasRoom s.rows.items
amid-room g day done b s t sound o l h =
    let ts = s.rates.segments in
    subst (All HasRoom) (sym h.rows)
    (All-map HasRoom (rows_amid g day done b) ts (All-weaker (Contains ts) (λ x. HasRoom (rows_amid g day done b x)) (λ x c. rows-room g day done b x sound o l) ts (All-contains_itself ts)))

-- no accrual counts as many days as the calendar has
pub amid-few : (g : Given) (day : ℕ) (s : State) (k : Track) → IsSound g → opened_in g ≤ day → day ≤ last_request_day → AreAmid g day (posts_of g day) s k → All (λ (a : Accrued). a.days + 1 ≤ 40000) s.accruals.items
amid-few g day s k sound o l h =
    All-weaker (λ (a : Accrued). a.days ≤ day - 1 + 1 - opened_in g) (λ (a : Accrued). a.days + 1 ≤ 40000) (λ a d. let low = sound.opening.first in omega arith) s.accruals.items h.accrued.days

-- ---- and after it
-- a state with the rows of so many days more, at the rates of one day under these rows of the index
pub record HasRow (index : List IndexRow) (days day : ℕ) (s new : State) : Type 0 where
  pub segments : new.segments ≡ s.segments
  pub rates : new.rates ≡ s.rates
  pub balances : length s.segments.balances ≡ length s.rates.segments + 2
  pub rows : new.rows.items ≡ with_rows index days s.rates s.segments.balances day s.rows.items
  pub accruals : new.accruals.items ≡ with_accruals days s.rates s.segments.balances day s.accruals.items

-- under rows that are the same
pub has-row : (index other : List IndexRow) (days day : ℕ) (s new : State) → index ≡ other → HasRow other days day s new → HasRow index days day s new
has-row index other days day s new e h = subst (λ u. HasRow u days day s new) (sym e) h

pub owed-is : (entries : List Entry) (balances : List ℤ) (t : SegmentTerms) → AreBalances entries balances → t.id < length balances → owed_on balances t ≡ owing t.id entries
owed-is entries balances t h l = ap at_least_zero (h.each t.id l)

pub id-known : (s : State) (t : SegmentTerms) → AreByNumber 2 s.rates.segments → length s.segments.balances ≡ length s.rates.segments + 2 → Contains s.rates.segments t → t.id < length s.segments.balances
id-known s t n e c = let below = number-below 2 s.rates.segments t n c in omega (arith, below, e)

rows-after : (g : Given) (day : ℕ) (s : State) (k : Track) → IsSound g → opened_in g ≤ day → day ≤ last_request_day → length s.segments.balances ≡ length s.rates.segments + 2 → AreAmid g day (posts_of g day) s k
    → with_rows g.shared.index 1 s.rates s.segments.balances day s.rows.items ≡ map (rows_through g (first_in g day) day (posted g day)) s.rates.segments
rows-after g day s k sound o l e h =
    let ts = s.rates.segments in
    let balances = s.segments.balances in
    let numbers = (amid-rated g (rows_amid g day (posts_of g day) (posted g day)) (posted g day) s k h.stand).numbers in
    let change : SegmentTerms → Rows → Rows = λ t r. with_row g.shared.index 1 s.rates day t (owed_on balances t) r in
    let each : (t : SegmentTerms) → Contains ts t → change t (rows_amid g day (posts_of g day) (posted g day) t) ≡ rows_through g (first_in g day) day (posted g day) t =
    λ t c. ap (λ (r : Rates). with_row g.shared.index 1 r day t (owed_on balances t) (rows_amid g day (posts_of g day) (posted g day) t)) h.stand.rates
    ∙ (ap (λ n. with_row g.shared.index 1 (rates_by g (posted g day).penalties) day t n (rows_amid g day (posts_of g day) (posted g day) t)) (owed-is (posted g day).entries balances t h.stand.sums (id-known s t numbers e c))
    ∙ sym (row-more g day t sound o l)) in
    ap (each_with change ts) h.stand.rows
    ∙ (each-map change (rows_amid g day (posts_of g day) (posted g day)) ts
    ∙ same-map (λ t. change t (rows_amid g day (posts_of g day) (posted g day) t)) (rows_through g (first_in g day) day (posted g day)) ts each)

-- an accrual's sum after a day depends on the sum before it alone
pub sum-after : (days : ℕ) (r : Option ℕ) (n : ℕ) (x y : Accrued) → x.sum ≡ y.sum → (with_accrual_at days r n x).sum ≡ (with_accrual_at days r n y).sum
sum-after days None n x y e = e
sum-after days (Some rate) n x y e = ap (λ m. m + days * n * daily rate) e

pub days-after : (days : ℕ) (r : Option ℕ) (n most : ℕ) (x : Accrued) → x.days ≤ most → (with_accrual_at days r n x).days ≤ most + days
days-after days None n most x l = omega arith
days-after days (Some rate) n most x l = omega arith

pub each-few : (change : SegmentTerms → Accrued → Accrued) (days most : ℕ) → ((t : SegmentTerms) (x : Accrued) → x.days ≤ most → (change t x).days ≤ most + days)
    → (ts : List SegmentTerms) (xs : List Accrued) → All (λ (a : Accrued). a.days ≤ most) xs → All (λ (a : Accrued). a.days ≤ most + days) (each_with change ts xs)
unfolding each_with
each-few change days most h [] xs a = All-weaker (λ (a : Accrued). a.days ≤ most) (λ (a : Accrued). a.days ≤ most + days) (λ a l. omega arith) xs a
each-few change days most h (t ∷ ts) [] a = All-nil (λ (a : Accrued). a.days ≤ most + days)
each-few change days most h (t ∷ ts) (x ∷ xs) a =
    All-cons (λ (a : Accrued). a.days ≤ most + days) (change t x) (each_with change ts xs) (h t x (All-head (λ (a : Accrued). a.days ≤ most) x xs a)) (each-few change days most h ts xs (All-tail (λ (a : Accrued). a.days ≤ most) x xs a))

accruals-after : (g : Given) (day : ℕ) (s : State) (k : Track) → IsSound g → opened_in g ≤ day → length s.segments.balances ≡ length s.rates.segments + 2 → AreAmid g day (posts_of g day) s k
    → HaveAccrued g day (posted g day) s.rates.segments (with_accruals 1 s.rates s.segments.balances day s.accruals.items)
accruals-after g day s k sound o e h =
    let ts = s.rates.segments in
    let balances = s.segments.balances in
    let old = s.accruals.items in
    let numbers = (amid-rated g (rows_amid g day (posts_of g day) (posted g day)) (posted g day) s k h.stand).numbers in
    let change : SegmentTerms → Accrued → Accrued = λ t x. with_accrual_at 1 (accrual_rate day t) (owed_on balances t) x in
    record {
      sums = λ t c sorted open'.
          let above = number-above 2 ts t numbers c in
          let below = number-below 2 ts t numbers c in
          let within : t.id - 2 < length ts = omega (arith, above, below) in
          let here : t.id - 2 < length old = omega (arith, within, h.stand.accruals) in
          let kept = h.accrued.sums t c sorted (over-later t.ends day open') ∙ sym (accrual_of_a_book.sum (seen_in g (day - 1)) (before g day) t) in
          ap (λ (x : Accrued). x.sum) (each-at change ts old (t.id - 2) no_segment nothing_accrued within here
          ∙ ap (λ u. change u (get_or old (t.id - 2) nothing_accrued)) (at-place 2 ts t no_segment numbers c))
          ∙ (sum-after 1 (accrual_rate day t) (owed_on balances t) (get_or old (t.id - 2) nothing_accrued) (accrued_in (seen_in g (day - 1)) (before g day) t) kept
          ∙ (ap (λ (x : Accrued). x.sum) (ap (λ n. with_accrual_at 1 (accrual_rate day t) n (accrued_in (seen_in g (day - 1)) (before g day) t)) (owed-is (posted g day).entries balances t h.stand.sums (id-known s t numbers e c))
          ∙ accrual-more g day t sound o sorted open')
          ∙ accrual_of_a_book.sum (seen_in g day) (posted g day) t));
      days =
          let low = sound.opening.first in
          let next : day - 1 + 1 - opened_in g + 1 ≡ day + 1 - opened_in g = omega arith in
          subst (λ n. All (λ (a : Accrued). a.days ≤ n) (with_accruals 1 s.rates s.segments.balances day s.accruals.items)) next
          (each-few change 1 (day - 1 + 1 - opened_in g) (λ t x l. days-after 1 (accrual_rate day t) (owed_on balances t) (day - 1 + 1 - opened_in g) x l) ts old h.accrued.days);
    }

pub posted-of : (g : Given) (day : ℕ) (s new : State) (k : Track) → IsSound g → opened_in g ≤ day → day ≤ last_request_day → HasRow g.shared.index 1 day s new → AreAmid g day (posts_of g day) s k → ArePosted g day new k
posted-of g day s new k sound o l n h =
    let long = each-length (λ t x. with_accrual_at 1 (accrual_rate day t) (owed_on s.segments.balances t) x) s.rates.segments s.accruals.items in
    let same = ap length n.accruals in
    let segments = ap (λ (r : Rates). length r.segments) n.rates in
    record {
      stand = record {
        entries = h.stand.entries;
        cycles = h.stand.cycles;
        fees = h.stand.fees;
        rates = n.rates ∙ h.stand.rates;
        segments = ap (λ v. v.segments) n.segments ∙ h.stand.segments;
        sums = subst (λ v. AreBalances (posted g day).entries v.balances) (sym n.segments) h.stand.sums;
        rows = n.rows ∙ (rows-after g day s k sound o l n.balances h ∙ ap (λ (r : Rates). map (rows_through g (first_in g day) day (posted g day)) r.segments) (sym n.rates));
        accruals = omega (arith, same, long, segments, h.stand.accruals);
      };
      accrued = subst (λ (r : Rates). HaveAccrued g day (posted g day) r.segments new.accruals.items) (sym n.rates)
          (subst (HaveAccrued g day (posted g day) s.rates.segments) (sym n.accruals) (accruals-after g day s k sound o n.balances h));
    }
