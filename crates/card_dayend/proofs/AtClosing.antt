-- What a closing is given stands for the book after the day's posts.
use Rattle.std.proofs.Common.{◌≡◌, ℕ, ◌+◌, ◌-◌, ◌<◌, ◌≤◌, Bool, true, false, cond, ◌&&◌, ◌||◌, not, eqb, leb, List, [], drop, map, refl, sym, ap, ◌∙◌, subst, arith, ◌⊎◌, inl, inr}
use Rattle.std.specs.List.{All, Contains, filter}
use Rattle.std.proofs.lemmas.Bool.{cases_lt}
use Rattle.card_bounds.proofs.Dated.{rows_of_past_days}
use Rattle.card_bounds.proofs.OnSegments.{entries_have_segments}
use Rattle.card_bounds.specs.Places.{LieOn, segments_by}
use Rattle.card_closing.specs.Interest.{StandFor as StandForClosing}
use Rattle.card_events.proofs.DueLaws.{closing_laws}
use Rattle.card_events.specs.Billing.{cycle_of}
use Rattle.card_events.specs.Civil.{day_of_month}
use Rattle.card_events.specs.Range.{last_request_day}
use Rattle.card_effects.proofs.DayLaws.{books_of_a_day}
use Rattle.card_effects.specs.Standing.{is_added}
use Rattle.card_events.specs.History.{anchor_of}
use Rattle.card_closing.proofs.Cases.{one_case, without_entries}
use Rattle.card_closing.proofs.Lowering.{book_after-lowers, due-lowers, posts-lower}
use Rattle.card_closing.specs.BookRows.{AreLowering, HasOneCase, rows_of}
use Rattle.card_model.proofs.Calendar.{is-anchor}
use Rattle.card_model.specs.Books.{Book}
use Rattle.card_model.specs.Closing.{first_day_of, purchase_case_in}
use Rattle.card_model.specs.Cycles.{last_cycle, posts_on}
use Rattle.card_model.specs.DueDates.{on_due}
use Rattle.card_model.specs.Entries.{at_least_zero, owing}
use Rattle.card_model.specs.Interest.{row}
use Rattle.card_model.specs.Segments.{SegmentTerms, is_deferred_on, is_over, is_plan, is_sort}
use Rattle.card_model.specs.declared.entry.Entry.{Entry}
use Rattle.card_model.specs.declared.grace.GraceCase.{GraceCase}
use Rattle.card_model.specs.declared.segment.Sort.{Sort}
use Rattle.card_model.specs.declared.segment.Sort.TheVariants as sort
use Rattle.card_rates.proofs.ByNumber.{number-above}
use Rattle.card_rates.proofs.DayLaws.{segments_of_a_day}
use Rattle.card_rates.proofs.LaterPosts.{no-leb}
use Rattle.card_rates.specs.RateBooks.{Rates, rates_of}
use Rattle.card_daily.specs.Given.{Given, IsSound, account_in, book_on, opened_in, row_in, seen_in}
use Rattle.card_daily.specs.Stands.{ArePosted, amid, before, first_in, posted, posts_of, rows_through}
use Rattle.card_daily.specs.declared.state.State.{State}
use Rattle.card_daily.specs.declared.track.Track.{Track}
use Rattle.card_daily.proofs.Books.{before-is, day-is}
use Rattle.card_daily.proofs.ClosingDay.{closes-on}
use Rattle.card_daily.proofs.Cycles.{first-amid, first-is, first-opened}
use Rattle.card_dayend.proofs.Planned.{ends-of}
use Rattle.card_dayend.proofs.RowsOfADay.{earlier-row}
use Rattle.card_daily.proofs.Standing.{amid-lies, one-each, rated}

abbrev segments_in : Given → List SegmentTerms
segments_in g = (rates_of g.shared.holidays g.history []).segments

-- ---- segments that are still to come
-- they have no entries
pub none-on : (g : Given) (day : ℕ) (b : Book) (t : SegmentTerms) → opened_in g ≤ day → LieOn (segments_by g.history g.issued g.shared day) b.entries → Contains (segments_in g) t → is_added day t ≡ false
    → All (λ e. eqb e.segment t.id ≡ false) b.entries
none-on g day b t o lies there e =
    let numbers = segments_of_a_day.numbers g.shared.holidays g.history in
    let above = number-above 2 (segments_in g) t numbers there in
    let those = subst (λ (gs : List SegmentTerms). LieOn gs b.entries) (books_of_a_day.those g.history g.issued g.shared day o) lies in
    entries_have_segments.unseen (segments_in g) (is_added day) t b.entries those above e (λ h in' same. one-each g h t in' there same)

-- and accrue nothing
none-accrues : (day : ℕ) (t : SegmentTerms) → is_added day t ≡ false → is_deferred_on day t ≡ false
none-accrues day t e = by t.sort e
  where
    by : (s : Sort) → cond (is_sort sort.Promo s || is_sort sort.Deferred s) (leb t.begins day) (leb t.begins (day + 15)) ≡ false → (is_sort sort.Deferred s && leb t.begins day && not (is_over t.ends day)) ≡ false
    by sort.Credit e = refl
    by sort.Held e = refl
    by sort.Purchase e = refl
    by sort.Cash e = refl
    by sort.Transfer e = refl
    by sort.Promo e = refl
    by sort.Deferred e = rw e refl

deferred-plan : (t : SegmentTerms) → is_sort sort.Deferred t.sort ≡ true → is_plan t ≡ true
deferred-plan t e = by t.sort e
  where
    by : (s : Sort) → is_sort sort.Deferred s ≡ true → (is_sort sort.Promo s || is_sort sort.Deferred s) ≡ true
    by sort.Credit e = cc
    by sort.Held e = cc
    by sort.Purchase e = cc
    by sort.Cash e = cc
    by sort.Transfer e = cc
    by sort.Promo e = cc
    by sort.Deferred e = refl

-- a plan isn't there before its first day
plan-later : (x : ℕ) (t : SegmentTerms) → is_sort sort.Deferred t.sort ≡ true → x < t.begins → is_added x t ≡ false
plan-later x t sorted l = rw (deferred-plan t sorted) (no-leb t.begins x l)

owing-none : (es : List Entry) (s : ℕ) → All (λ (e : Entry). eqb e.segment s ≡ false) es → owing s es ≡ 0
owing-none es s h = ap at_least_zero (entries_have_segments.none es s h)

-- ---- before a plan's first day
past-row : (g : Given) (day x s : ℕ) → IsSound g → opened_in g ≤ x → x < day
    → row (posted g day).entries s x ≡ owing s (amid g x (posts_on (seen_in g (opened_in g + (x - opened_in g))))).entries
past-row g day x s sound o l =
    let on = day-is (opened_in g) x o in
    let past = rows_of_past_days g.history g.issued g.shared (day - 1) (x - opened_in g) (day - 1 - x) s (omega (arith, on)) in
    earlier-row g day x s (omega arith) l
    ∙ (ap (λ (b : Book). row b.entries s x) (before-is g day (omega arith))
    ∙ (ap (row (book_on g (day - 1)).entries s) (sym on) ∙ past))

early-none : (g : Given) (day : ℕ) (t : SegmentTerms) → IsSound g → opened_in g ≤ day → day ≤ last_request_day → Contains (segments_in g) t → is_sort sort.Deferred t.sort ≡ true
    → (x : ℕ) → first_in g day ≤ x → x < t.begins → row (posted g day).entries t.id x ≡ 0
early-none g day t sound o l there sorted x from less = by (cases_lt day t.begins)
  where
    by : (day < t.begins) ⊎ (t.begins ≤ day) → row (posted g day).entries t.id x ≡ 0
    by (inl later) =
        without_entries (posted g day).entries t.id x (none-on g day (posted g day) t o (amid-lies g day (posts_of g day) o) there (plan-later day t sorted later))
    by (inr begun) =
        let opened' = first-opened g day sound o (omega arith) in
        let ox : opened_in g ≤ x = omega (arith, opened', from) in
        let done = posts_on (seen_in g (opened_in g + (x - opened_in g))) in
        past-row g day x t.id sound ox (omega arith) ∙ owing-none (amid g x done).entries t.id (none-on g x (amid g x done) t ox (amid-lies g x done ox) there (plan-later x t sorted less))

-- ---- the end of a plan
ends-apart : (g : Given) (day end : ℕ) → IsSound g → opened_in g ≤ day → day ≤ last_request_day → day_of_month day ≡ (anchor_of g.history).close_day → day_of_month end ≡ (anchor_of g.history).close_day
    → (day ≤ end) ⊎ (end < first_in g day)
ends-apart g day end s o l e on = by (cases_lt end day) (cases_lt end (first_in g day))
  where
    by : (end < day) ⊎ (day ≤ end) → (end < first_in g day) ⊎ (first_in g day ≤ end) → (day ≤ end) ⊎ (end < first_in g day)
    by (inr m) q = inl m
    by (inl m) (inl q) = inr q
    by (inl m) (inr q) =
        let a = anchor_of g.history in
        let closes = closes-on g day s o l e in
        let same = closes.on in
        let first = first-is g day s o (omega arith) in
        let laws = closing_laws a (is-anchor a s.opening) (cycle_of a day) closes.first (omega (arith, same)) in
        absurd (laws.none_between end (omega (arith, first, q)) (omega (arith, same, m)) on)

sort-test : (t : SegmentTerms) (A : Type 0) → (is_sort sort.Deferred t.sort ≡ true → A) → (is_sort sort.Deferred t.sort ≡ false → A) → A
sort-test t A is other = by (is_sort sort.Deferred t.sort) refl
  where
    by : (b : Bool) → is_sort sort.Deferred t.sort ≡ b → A
    by true e = is e
    by false e = other e

one-case-each : (g : Given) (day : ℕ) (purchase : GraceCase) (t : SegmentTerms) → IsSound g → opened_in g ≤ day → day ≤ last_request_day → day_of_month day ≡ (anchor_of g.history).close_day → Contains (segments_in g) t
    → HasOneCase (seen_in g day) (posted g day) purchase (first_in g day) t
one-case-each g day purchase t s o l e there =
    sort-test t (HasOneCase (seen_in g day) (posted g day) purchase (first_in g day) t)
    (λ sorted. let h = ends-of g t s there sorted in
    one_case.deferred (seen_in g day) (posted g day) purchase (first_in g day) h.end t h.is (ends-apart g day h.end s o l e h.on) (early-none g day t s o l there sorted))
    (λ sorted. one_case.others (seen_in g day) (posted g day) purchase (first_in g day) t sorted)

-- ---- what the rest asks for
posted-lowers : (g : Given) (day : ℕ) → AreLowering (posted g day).entries
posted-lowers g day =
    let n = day - opened_in g in
    let b = before g day in
    let seen = seen_in g (opened_in g + n) in
    posts-lower (row_in g n) (account_in g) seen (posts_of g day) (on_due (row_in g n) (account_in g) seen b (last_cycle b.cycles))
    (due-lowers (row_in g n) (account_in g) seen b (last_cycle b.cycles) (book_after-lowers g.issued (account_in g) (seen_in g) n))

ends-parts : (t : SegmentTerms) (day : ℕ) → (is_deferred_on day t && is_over t.ends (day + 1)) ≡ true → (is_sort sort.Deferred t.sort ≡ true) × (is_over t.ends day ≡ false)
ends-parts t day e = by (is_sort sort.Deferred t.sort) (leb t.begins day) (is_over t.ends day) (is_over t.ends (day + 1)) e
  where
    by : (a b c d : Bool) → ((a && b && not c) && d) ≡ true → (a ≡ true) × (c ≡ false)
    by true true false d e = (refl, refl)
    by true true true d e = cc
    by true false true d e = cc
    by true false false d e = cc
    by false b c d e = cc

-- ---- together
pub stand-for : (g : Given) (day : ℕ) (s : State) (k : Track) → IsSound g → opened_in g ≤ day → day ≤ last_request_day → day_of_month day ≡ (anchor_of g.history).close_day → ArePosted g day s k
    → StandForClosing s.rates.segments (is_added day) (account_in g) (seen_in g day) (posted g day) (drop 2 s.segments.segments) s.rows.items s.accruals.items
stand-for g day s k sound o l e h =
    let b = posted g day in
    let rows_by = rows_through g (first_in g day) day b in
    let are = rated g rows_by b s k h.stand in
    let all : s.rates.segments ≡ segments_in g = ap (λ (r : Rates). r.segments) h.stand.rates in
    let first : first_day_of (account_in g) b ≡ first_in g day = first-amid g day (posts_of g day) in
    record {
      kept = are.kept;
      numbers = are.numbers;
      seen_ones = books_of_a_day.those g.history g.issued g.shared day o ∙ ap (filter (is_added day)) (sym all);
      others = λ t c unseen. record {
        entries = none-on g day b t o (amid-lies g day (posts_of g day) o) (subst (λ (ts : List SegmentTerms). Contains ts t) all c) unseen;
        accrues = none-accrues day t unseen;
      };
      same_rows = h.stand.rows ∙ ap (λ f. map (rows_of (account_in g) (seen_in g day) b f) s.rates.segments) (sym first);
      cases = λ t c. subst (λ f. HasOneCase (seen_in g day) b (purchase_case_in (seen_in g day) b) f t) (sym first)
          (one-case-each g day (purchase_case_in (seen_in g day) b) t sound o l e (subst (λ (ts : List SegmentTerms). Contains ts t) all c));
      accrued = λ t c ends. let parts = ends-parts t day ends in h.accrued.sums t c parts.0 parts.1;
      each_accrues = h.stand.accruals;
      lowering = posted-lowers g day;
    }
