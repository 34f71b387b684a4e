-- Days on which nothing happens: the book, its rows and its accruals.
use Rattle.std.proofs.Common.{◌≡◌, ℕ, zero, suc, ◌+◌, ◌-◌, ◌<◌, ◌≤◌, Bool, true, false, cond, ◌&&◌, ◌||◌, eqb, leb, ltb, List, [], ◌∷◌, Option, Some, None, map, length, get_or, refl, sym, ap, ◌∙◌, subst, arith, ◌⊎◌, inl, inr}
use Rattle.std.specs.List.{All, Contains, filter, list_any}
use Rattle.std.proofs.lemmas.Bool.{cases_lt}
use Rattle.std.proofs.lemmas.Bool.Decides.{nat_tests}
use Rattle.std.proofs.lemmas.List.Elements.{All-contains_itself, All-map, All-weaker}
use Rattle.std.proofs.lemmas.List.FromFn.{length-map-range_with_len}
use Rattle.card_bounds.proofs.Dated.{Before, Counts, TooLate, added-none, row-front}
use Rattle.card_events.specs.Business.{is_due}
use Rattle.card_events.specs.Civil.{day_of_month}
use Rattle.card_events.specs.Range.{last_calendar_day, last_request_day}
use Rattle.card_events.specs.History.{CorrectedPost, anchor_of, corrected}
use Rattle.card_closing.proofs.Accruing.{accrual_of_a_book}
use Rattle.card_closing.proofs.Growing.{rows_grow}
use Rattle.card_closing.specs.Accruals.{Accrued, accrued_in, nothing_accrued}
use Rattle.card_closing.specs.BookRows.{day_row, rate_of, repayments, rows_of}
use Rattle.card_closing.specs.Growth.{with_repaid}
use Rattle.card_closing.specs.Rows.{Rows, row_of, with_days}
use Rattle.card_model.proofs.Accepting.{or-false}
use Rattle.card_model.specs.Books.{Account, Book, empty_book, rate_in}
use Rattle.card_model.specs.Breaks.{breaks_penalty, breaks_segment, is_break}
use Rattle.card_model.specs.Closing.{first_day_of}
use Rattle.card_model.specs.CycleDays.{IsOpening}
use Rattle.card_model.specs.Cycles.{IssuedRow, Seen}
use Rattle.card_model.specs.Entries.{AreBalances, owing}
use Rattle.card_model.specs.Folds.{book, book_after}
use Rattle.card_model.specs.Interest.{row}
use Rattle.card_model.specs.Payments.{is_returned}
use Rattle.card_model.specs.Rates.{accrual_rate}
use Rattle.card_model.specs.Segments.{SegmentTerms, is_over, is_sort, segments}
use Rattle.card_model.specs.declared.entry.Entry.{Entry}
use Rattle.card_model.specs.declared.segment.Interval.{Interval}
use Rattle.card_model.specs.declared.segment.Sort.TheVariants as sort
use Rattle.card_model.proofs.Quiet.{quiet_days_change_nothing}
use Rattle.card_events.specs.SharedRows.{IndexRow}
use Rattle.card_rates.specs.Laws.{AreQuiet}
use Rattle.card_rates.specs.RateBooks.{Rates}
use Rattle.card_rates.specs.RateBooks.{rate_of as rate_in_force}
use Rattle.card_rates.proofs.ByNumber.{at-place, number-above, number-below}
use Rattle.card_rates.proofs.DayLaws.{rates_of_a_day}
use Rattle.card_rates.proofs.Spans.{spans_keep_rates}
use Rattle.card_daily.specs.Given.{Given, IsSound, account_in, book_in, book_on, opened_in, seen_in}
use Rattle.card_daily.specs.Stands.{AreBefore, HaveAccrued, StandFor, before, first_in, posts_of, returned_by, rows_through}
use Rattle.card_daily.specs.declared.state.State.{State}
use Rattle.card_daily.specs.declared.track.Track.{Track}
use Rattle.card_daily.proofs.Cycles.{before-dated, first-by, first-within}
use Rattle.card_daily.proofs.Repaying.{same-brought}
use Rattle.card_daily.proofs.Returning.{returned-all, returned-start}
use Rattle.card_dayend.specs.Rows.{each_with, owed_on, with_accrual_at, with_accruals, with_row, with_rows}
use Rattle.card_dayend.specs.Spans.{IsQuietFrom, breaks_by}
use Rattle.card_dayend.proofs.Each.{each-at, each-length, each-map, no_segment, same-map}
use Rattle.card_dayend.proofs.RowsOfADay.{HasRow, amid-rated, days-after, deferred-by, each-few, id-known, owed-is, rates_by, sum-after}

-- ---- the book
pub empty-before : (g : Given) (day : ℕ) → day ≤ opened_in g → before g day ≡ empty_book
unfolding book_after
empty-before g day l = let none : day - opened_in g ≡ 0 = omega arith in ap (book_in g) none

then-is : (g : Given) (day : ℕ) → before g (day + 1) ≡ book_on g day
unfolding book
then-is g day = refl

quiet-day : (g : Given) (penalties : List Interval) (day : ℕ) → IsOpening (anchor_of g.history) → day ≤ last_calendar_day → breaks_by g penalties day ≡ false → before g (day + 1) ≡ before g day
quiet-day g penalties zero open' l q = empty-before g (0 + 1) (omega (arith, open'.first)) ∙ sym (empty-before g 0 (omega arith))
quiet-day g penalties (suc day) open' l q =
    let e : suc day ≡ day + 1 = omega arith in
    let same = quiet_days_change_nothing g.history g.issued g.shared penalties day open' (omega arith) (subst (λ d. breaks_by g penalties d ≡ false) e q) in
    ap (λ d. before g (d + 1)) e ∙ (then-is g (day + 1) ∙ (same ∙ (sym (then-is g day) ∙ ap (before g) (sym e))))

-- over quiet days it stays
pub quiet-book : (g : Given) (penalties : List Interval) (first days : ℕ) → IsOpening (anchor_of g.history) → first + days ≤ 48577 → AreQuiet g.history g.issued g.shared penalties first days
    → before g (first + days) ≡ before g first
quiet-book g penalties first zero open' l q = let e : first + 0 ≡ first = omega arith in ap (before g) e
quiet-book g penalties first (suc days) open' l q =
    let e : first + suc days ≡ first + days + 1 = omega arith in
    ap (before g) e
    ∙ (quiet-day g penalties (first + days) open' (omega arith) (q days (omega arith)) ∙ quiet-book g penalties first days open' (omega arith) (λ i m. q i (omega arith)))

none-filtered : {X : Type 0} (p : X → Bool) (xs : List X) → list_any p xs ≡ false → filter p xs ≡ []
none-filtered p [] h = refl
none-filtered p (x ∷ xs) h = let parts = or-false (p x) (list_any p xs) h in rw parts.0 (none-filtered p xs parts.1)

no-post : (acc : Account) (posts : List CorrectedPost) (issued : List IssuedRow) (index : List IndexRow) (penalties : List Interval) (day : ℕ) → is_break acc posts issued index penalties day ≡ false → filter (λ (p : CorrectedPost). eqb p.day day) posts ≡ []
unfolding is_break
no-post acc posts issued index penalties day h =
    let z = or-false _ (acc.variable && ltb acc.anchor.opened day && list_any (λ r. eqb r.day day) index) h in
    let a = or-false _ (list_any (breaks_penalty day) penalties) z.0 in
    let b = or-false _ (list_any (breaks_segment day) (segments acc.anchor acc.terms posts)) a.0 in
    let c = or-false _ (list_any (λ r. eqb r.day day) issued) b.0 in
    let d = or-false _ (is_due acc.anchor (day - 1)) c.0 in
    let e = or-false (list_any (λ p. eqb p.day day) posts) (leb acc.anchor.opened day && eqb (day_of_month day) acc.anchor.close_day) d.0 in
    none-filtered (λ (p : CorrectedPost). eqb p.day day) posts e.0

-- so the same payments are returned
quiet-returned : (g : Given) (penalties : List Interval) (first days n : ℕ) → 1 ≤ first → AreQuiet g.history g.issued g.shared penalties first days
    → is_returned (seen_in g (first + days - 1)).posts (first + days - 1) n ≡ is_returned (seen_in g (first - 1)).posts (first - 1) n
quiet-returned g penalties first zero n l q = let e : first + 0 - 1 ≡ first - 1 = omega arith in ap (λ d. is_returned (seen_in g d).posts d n) e
quiet-returned g penalties first (suc days) n l q =
    let day = first + days in
    let e : first + suc days - 1 ≡ first + days = omega arith in
    let none : posts_of g day ≡ [] = no-post (account_in g) (corrected (anchor_of g.history) g.shared.holidays g.history) g.issued g.shared.index penalties day (q days (omega arith)) in
    ap (λ d. is_returned (seen_in g d).posts d n) e
    ∙ (returned-all g day n (omega arith) ∙ (ap (λ ps. returned_by g day ps n) none ∙ (returned-start g day n ∙ quiet-returned g penalties first days n l (λ i m. q i (omega arith)))))

-- ---- a row of each day
counts-before : (x : ℕ) (e : Entry) → e.day < x → Counts x e
counts-before x e l = let t : ltb e.day x ≡ true = grind (arith, nat_tests) in rw t refl

-- nothing is entered since, so that the row of a day is what is owed
quiet-row : (g : Given) (first d s : ℕ) → opened_in g ≤ first → first ≤ d → row (before g first).entries s d ≡ owing s (before g first).entries
quiet-row g first d s o l =
    let es = (before g first).entries in
    row-front s d es es (All-weaker (Before first) (Counts d) (λ e m. counts-before d e (omega (arith, m, l))) es (before-dated g first o)) (added-none (TooLate d) es)

-- the rate of an earlier day
rate-then : (g : Given) (b : Book) (d day later : ℕ) (t : SegmentTerms) → d ≤ day → d ≤ later
    → rate_in (account_in g) (seen_in g later) b d t ≡ rate_in (account_in g) (seen_in g day) b d t
rate-then g b d day later t l m =
    sym (rates_of_a_day.any g.history g.issued g.shared b d later t m) ∙ rates_of_a_day.any g.history g.issued g.shared b d day t l

-- and of each quiet day, which is that of the first
rate-since : (g : Given) (b : Book) (first days d : ℕ) (t : SegmentTerms) → opened_in g ≤ first → AreQuiet g.history g.issued g.shared b.penalties first days → first ≤ d → d < first + days
    → Contains (rates_by g b.penalties).segments t
    → rate_in (account_in g) (seen_in g (first + days - 1)) b d t ≡ rate_in_force g.shared.index (rates_by g b.penalties) first t
rate-since g b first days d t low q l m c =
    let place : first + (d - first) ≡ d = omega arith in
    sym (rates_of_a_day.any g.history g.issued g.shared b d (first + days - 1) t (omega arith))
    ∙ (ap (λ x. rate_in_force g.shared.index (rates_by g b.penalties) x t) (sym place)
    ∙ spans_keep_rates.rates g.history g.issued g.shared b.penalties first days (d - first) t (λ follows. low) q (omega arith) c)

row-parts : (a : Account) (seen : Seen) (b : Book) (t : SegmentTerms) (d owed rate : ℕ) → row b.entries t.id d ≡ owed → rate_in a seen b d t ≡ rate → day_row a seen b t d ≡ row_of owed (rate_of owed rate) d
row-parts a seen b t d owed rate e f =
    ap (λ x. row_of x (rate_of x (rate_in a seen b d t)) d) e ∙ ap (λ r. row_of owed (rate_of owed r) d) f

same-row : (a : Account) (seen later : Seen) (b : Book) (t : SegmentTerms) (d : ℕ) → rate_in a later b d t ≡ rate_in a seen b d t → day_row a later b t d ≡ day_row a seen b t d
same-row a seen later b t d e = ap (λ r. row_of (row b.entries t.id d) (rate_of (row b.entries t.id d) r) d) e

-- its own repayments are those that the rows have
own-repaid : (a : Account) (seen : Seen) (b : Book) (first : ℕ) (t : SegmentTerms) → with_repaid (repayments seen t.id first b.entries) (rows_of a seen b first t) ≡ rows_of a seen b first t
unfolding rows_of
own-repaid a seen b first t = refl

quiet-rows : (g : Given) (first days : ℕ) (t : SegmentTerms) → IsSound g → opened_in g ≤ first → first ≤ last_request_day → 1 ≤ days
    → AreQuiet g.history g.issued g.shared (before g first).penalties first days → Contains (rates_by g (before g first).penalties).segments t
    → rows_through g (first_in g first) (first + days - 1) (before g first) t
    ≡ with_row g.shared.index days (rates_by g (before g first).penalties) first t (owing t.id (before g first).entries) (rows_through g (first_in g first) (first - 1) (before g first) t)
quiet-rows g first days t sound o l some q c =
    let b = before g first in
    let a = account_in g in
    let seen = seen_in g (first - 1) in
    let later = seen_in g (first + days - 1) in
    let owed = owing t.id b.entries in
    let rate = rate_in_force g.shared.index (rates_by g b.penalties) first t in
    let low = sound.opening.first in
    let begun = first-by g first sound o (omega arith) in
    let start = first_in g first in
    rows_grow.days days owed (rate_of owed rate) start a t seen later b b
    (record {
      begun = omega (arith, begun);
      day = omega (arith, low, o);
      before = λ d m n. same-row a seen later b t d (rate-then g b d (first - 1) (first + days - 1) t n (omega (arith, n, some)));
      since = λ d m n. row-parts a later b t d owed rate (quiet-row g first d t.id o (omega (arith, m, low, o))) (rate-since g b first days d t o q (omega (arith, m, low, o)) (omega (arith, n, some)) c);
    })
    ∙ (ap (λ r. with_days days owed (rate_of owed rate) (with_repaid r (rows_of a seen b start t)))
    (same-brought t.id start (λ n. is_returned later.posts (first + days - 1) n) (λ n. is_returned seen.posts (first - 1) n) (λ n. quiet-returned g b.penalties first days n (omega (arith, low, o)) q) b.entries)
    ∙ ap (with_days days owed (rate_of owed rate)) (own-repaid a seen b start t))

-- ---- accruals
over-by : (ends : Option ℕ) (x day : ℕ) → x ≤ day → is_over ends day ≡ false → is_over ends x ≡ false
over-by None x day l e = e
over-by (Some end) x day l e = grind (arith, nat_tests)

some-rate : (t : SegmentTerms) (day : ℕ) → is_sort sort.Deferred t.sort ≡ true → is_over t.ends day ≡ false → accrual_rate day t ≡ Some t.rate → t.begins ≤ day
some-rate t day s o e = by (cases_lt day t.begins)
  where
    never : (o : Option ℕ) (x : ℕ) → o ≡ None → o ≡ Some x → ⊥
    never o x h k = cc

    by : (day < t.begins) ⊎ (t.begins ≤ day) → t.begins ≤ day
    by (inl l) =
        let late : leb t.begins day ≡ false = grind (arith, nat_tests) in
        absurd (never (accrual_rate day t) t.rate (ap (λ d. cond d (Some t.rate) None) (deferred-by t day false s o late)) e)
    by (inr l) = l

quiet-accrual : (g : Given) (first days : ℕ) (t : SegmentTerms) → IsSound g → opened_in g ≤ first → 1 ≤ days → AreQuiet g.history g.issued g.shared (before g first).penalties first days
    → Contains (rates_by g (before g first).penalties).segments t → is_sort sort.Deferred t.sort ≡ true → is_over t.ends (first + days - 1) ≡ false
    → with_accrual_at days (accrual_rate first t) (owing t.id (before g first).entries) (accrued_in (seen_in g (first - 1)) (before g first) t) ≡ accrued_in (seen_in g (first + days - 1)) (before g first) t
quiet-accrual g first days t sound o some q c e f = by (cases_lt day t.begins)
  where
    b : Book
    b = before g first

    day : ℕ
    day = first + days - 1

    old : Accrued
    old = accrued_in (seen_in g (first - 1)) b t

    owed : ℕ
    owed = owing t.id b.entries

    low : 1 ≤ first
    low = let w = sound.opening.first in omega (arith, w, o)

    same : accrual_rate first t ≡ accrual_rate day t
    same =
        let place : first + (days - 1) ≡ day = omega (arith, some) in
        sym (ap (λ x. accrual_rate x t) (sym place) ∙ spans_keep_rates.accruals g.history g.issued g.shared b.penalties first days (days - 1) t q (omega (arith, some)) c)

    rated : (t' : Bool) → leb t.begins day ≡ t' → accrual_rate day t ≡ cond t' (Some t.rate) None
    rated t' h = ap (λ d. cond d (Some t.rate) None) (deferred-by t day t' e f h)

    by : (day < t.begins) ⊎ (t.begins ≤ day) → with_accrual_at days (accrual_rate first t) owed old ≡ accrued_in (seen_in g day) b t
    by (inl l) =
        let late : leb t.begins day ≡ false = grind (arith, nat_tests) in
        ap (λ r. with_accrual_at days r owed old) (same ∙ rated false late)
        ∙ (accrual_of_a_book.begins (seen_in g (first - 1)) b t (omega (arith, l, low, some))
        ∙ sym (accrual_of_a_book.begins (seen_in g day) b t (omega (arith, l))))
    by (inr l) =
        let early : leb t.begins day ≡ true = grind (arith, nat_tests) in
        let rate = rated true early in
        let begun : t.begins ≤ first = some-rate t first e (over-by t.ends first day (omega (arith, some)) f) (same ∙ rate) in
        ap (λ r. with_accrual_at days r owed old) (same ∙ rate)
        ∙ sym (accrual_of_a_book.grows days owed t (seen_in g (first - 1)) (seen_in g day) b b
        (record {
          begun = omega (arith, begun, low);
          day = omega (arith, low, some);
          before = λ d m n. refl;
          since = λ d m n. quiet-row g first d t.id o (omega (arith, m, low));
        }))

-- ---- room
fewer : (g : Given) (penalties : List Interval) (first days : ℕ) → AreQuiet g.history g.issued g.shared penalties first days → AreQuiet g.history g.issued g.shared penalties first (days - 1)
fewer g penalties first days q = λ i m. q i (omega arith)

abbrev HasRoomFor : ℕ → Rows → Type 0
HasRoomFor days r = length r.days + days ≤ 31

rows-long : (g : Given) (first day : ℕ) (b : Book) (t : SegmentTerms) → length (rows_through g first day b t).days ≡ day + 1 - first
unfolding rows_of
rows-long g first day b t = length-map-range_with_len (day_row (account_in g) (seen_in g day) b t) first (day + 1 - first)

-- a cycle has room for its quiet days
rows-room : (g : Given) (first days : ℕ) (t : SegmentTerms) → IsSound g → opened_in g ≤ first → first + days ≤ last_request_day → 1 ≤ days
    → AreQuiet g.history g.issued g.shared (before g first).penalties first days → HasRoomFor days (rows_through g (first_in g first) (first - 1) (before g first) t)
rows-room g first days t sound o l some q =
    let penalties = (before g first).penalties in
    let long = rows-long g (first_in g first) (first - 1) (before g first) t in
    let same : first_in g (first + (days - 1)) ≡ first_in g first =
    ap (first_day_of (account_in g)) (quiet-book g penalties first (days - 1) sound.opening (omega arith) (fewer g penalties first days q)) in
    let within = first-within g (first + (days - 1)) sound (omega arith) (omega arith) in
    let begun = first-by g first sound o (omega arith) in
    let low = sound.opening.first in
    omega (arith, long, same, within, begun, low, some)

abbrev rows_before : Given → ℕ → SegmentTerms → Rows
rows_before g day t = rows_through g (first_in g day) (day - 1) (before g day) t

pub quiet-room : (g : Given) (first days : ℕ) (s : State) (k : Track) → 1 ≤ days → IsQuietFrom g first days s k → All (HasRoomFor days) s.rows.items
quiet-room g first days s k some h =
    let ts = s.rates.segments in
    let penalties : s.rates.penalties ≡ (before g first).penalties = ap (λ (r : Rates). r.penalties) h.before.stand.rates in
    let q = subst (λ ps. AreQuiet g.history g.issued g.shared ps first days) penalties h.quiet in
    subst (All (HasRoomFor days)) (sym h.before.stand.rows)
    (All-map (HasRoomFor days) (rows_before g first) ts (All-weaker (Contains ts) (λ x. HasRoomFor days (rows_before g first x)) (λ x c. rows-room g first days x h.sound h.opened h.last some q) ts (All-contains_itself ts)))

pub quiet-few : (g : Given) (first days : ℕ) (s : State) (k : Track) → IsQuietFrom g first days s k → All (λ (a : Accrued). a.days + days ≤ 40000) s.accruals.items
quiet-few g first days s k h =
    All-weaker (λ (a : Accrued). a.days ≤ first - 1 + 1 - opened_in g) (λ (a : Accrued). a.days + days ≤ 40000)
    (λ a d. let low = h.sound.opening.first in let high = h.last in let o = h.opened in omega (arith, low, high, o, d)) s.accruals.items h.before.accrued.days

-- ---- behind them
stand-rows : (g : Given) (first days : ℕ) (s : State) (k : Track) → 1 ≤ days → IsQuietFrom g first days s k → length s.segments.balances ≡ length s.rates.segments + 2
    → with_rows g.shared.index days s.rates s.segments.balances first s.rows.items ≡ map (rows_through g (first_in g first) (first + days - 1) (before g first)) s.rates.segments
stand-rows g first days s k some h e =
    let b = before g first in
    let ts = s.rates.segments in
    let balances = s.segments.balances in
    let stand = h.before.stand in
    let numbers = (amid-rated g (rows_before g first) b s k stand).numbers in
    let penalties : s.rates.penalties ≡ b.penalties = ap (λ (r : Rates). r.penalties) stand.rates in
    let q = subst (λ ps. AreQuiet g.history g.issued g.shared ps first days) penalties h.quiet in
    let change : SegmentTerms → Rows → Rows = λ t r. with_row g.shared.index days s.rates first t (owed_on balances t) r in
    let each : (t : SegmentTerms) → Contains ts t → change t (rows_before g first t) ≡ rows_through g (first_in g first) (first + days - 1) b t =
    λ t c. ap (λ (r : Rates). with_row g.shared.index days r first t (owed_on balances t) (rows_before g first t)) stand.rates
    ∙ (ap (λ n. with_row g.shared.index days (rates_by g b.penalties) first t n (rows_before g first t)) (owed-is b.entries balances t stand.sums (id-known s t numbers e c))
    ∙ sym (quiet-rows g first days t h.sound h.opened (let l = h.last in omega (arith, l)) some q (subst (λ (r : Rates). Contains r.segments t) stand.rates c))) in
    ap (each_with change ts) stand.rows
    ∙ (each-map change (rows_before g first) ts
    ∙ same-map (λ t. change t (rows_before g first t)) (rows_through g (first_in g first) (first + days - 1) b) ts each)

stand-accruals : (g : Given) (first days : ℕ) (s : State) (k : Track) → 1 ≤ days → IsQuietFrom g first days s k → length s.segments.balances ≡ length s.rates.segments + 2
    → HaveAccrued g (first + days - 1) (before g first) s.rates.segments (with_accruals days s.rates s.segments.balances first s.accruals.items)
stand-accruals g first days s k some h e =
    let b = before g first in
    let ts = s.rates.segments in
    let balances = s.segments.balances in
    let old = s.accruals.items in
    let stand = h.before.stand in
    let numbers = (amid-rated g (rows_before g first) b s k stand).numbers in
    let penalties : s.rates.penalties ≡ b.penalties = ap (λ (r : Rates). r.penalties) stand.rates in
    let q = subst (λ ps. AreQuiet g.history g.issued g.shared ps first days) penalties h.quiet in
    let change : SegmentTerms → Accrued → Accrued = λ t x. with_accrual_at days (accrual_rate first t) (owed_on balances t) x in
    let low = h.sound.opening.first in
    let o = h.opened in
    record {
      sums = λ t c sorted open'.
          let above = number-above 2 ts t numbers c in
          let below = number-below 2 ts t numbers c in
          let within : t.id - 2 < length ts = omega (arith, above, below) in
          let here : t.id - 2 < length old = omega (arith, within, stand.accruals) in
          let kept = h.before.accrued.sums t c sorted (over-by t.ends (first - 1) (first + days - 1) (omega (arith, some)) open') ∙ sym (accrual_of_a_book.sum (seen_in g (first - 1)) b t) in
          ap (λ (x : Accrued). x.sum) (each-at change ts old (t.id - 2) no_segment nothing_accrued within here
          ∙ ap (λ u. change u (get_or old (t.id - 2) nothing_accrued)) (at-place 2 ts t no_segment numbers c))
          ∙ (sum-after days (accrual_rate first t) (owed_on balances t) (get_or old (t.id - 2) nothing_accrued) (accrued_in (seen_in g (first - 1)) b t) kept
          ∙ (ap (λ (x : Accrued). x.sum) (ap (λ n. with_accrual_at days (accrual_rate first t) n (accrued_in (seen_in g (first - 1)) b t)) (owed-is b.entries balances t stand.sums (id-known s t numbers e c))
          ∙ quiet-accrual g first days t h.sound h.opened some q (subst (λ (r : Rates). Contains r.segments t) stand.rates c) sorted open')
          ∙ accrual_of_a_book.sum (seen_in g (first + days - 1)) b t));
      days =
          let next : first - 1 + 1 - opened_in g + days ≡ first + days - 1 + 1 - opened_in g = omega (arith, low, o, some) in
          subst (λ n. All (λ (a : Accrued). a.days ≤ n) (with_accruals days s.rates s.segments.balances first s.accruals.items)) next
          (each-few change days (first - 1 + 1 - opened_in g) (λ t x l. days-after days (accrual_rate first t) (owed_on balances t) (first - 1 + 1 - opened_in g) x l) ts old h.before.accrued.days);
    }

pub passed : (g : Given) (first days : ℕ) (s new : State) (k : Track) → 1 ≤ days → IsQuietFrom g first days s k → HasRow g.shared.index days first s new → AreBefore g (first + days) new k
passed g first days s new k some h n =
    let b = before g first in
    let stand = h.before.stand in
    let long = each-length (λ t x. with_accrual_at days (accrual_rate first t) (owed_on s.segments.balances t) x) s.rates.segments s.accruals.items in
    let same = ap length n.accruals in
    let segments = ap (λ (r : Rates). length r.segments) n.rates in
    let stays : before g (first + days) ≡ b = quiet-book g s.rates.penalties first days h.sound.opening (let l = h.last in omega (arith, l)) h.quiet in
    record {
      stand = subst (λ (x : Book). StandFor g (rows_through g (first_day_of (account_in g) x) (first + days - 1) x) x new k) (sym stays) (record {
        entries = stand.entries;
        cycles = stand.cycles;
        fees = stand.fees;
        rates = n.rates ∙ stand.rates;
        segments = ap (λ v. v.segments) n.segments ∙ stand.segments;
        sums = subst (λ v. AreBalances b.entries v.balances) (sym n.segments) stand.sums;
        rows = n.rows ∙ (stand-rows g first days s k some h n.balances ∙ ap (λ (r : Rates). map (rows_through g (first_in g first) (first + days - 1) b) r.segments) (sym n.rates));
        accruals = omega (arith, same, long, segments, stand.accruals);
      });
      accrued = subst (λ (x : Book). HaveAccrued g (first + days - 1) x new.rates.segments new.accruals.items) (sym stays)
          (subst (λ (r : Rates). HaveAccrued g (first + days - 1) b r.segments new.accruals.items) (sym n.rates)
          (subst (HaveAccrued g (first + days - 1) b s.rates.segments) (sym n.accruals) (stand-accruals g first days s k some h n.balances)));
    }

-- and for no days
pub stays : (g : Given) (first days : ℕ) (s : State) (k : Track) → days ≡ 0 → IsQuietFrom g first days s k → AreBefore g (first + days) s k
stays g first days s k e h = let same : first ≡ first + days = omega arith in subst (λ d. AreBefore g d s k) same h.before
