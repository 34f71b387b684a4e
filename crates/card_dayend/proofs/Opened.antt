-- An account before its opening day.
use Rattle.std.proofs.Common.{◌≡◌, ℕ, zero, suc, ◌+◌, ◌-◌, ◌*◌, ◌≤◌, List, [], ◌∷◌, length, map, refl, sym, ap, ◌∙◌, subst, arith, get_or, replicate}
use Rattle.std.specs.List.{All, sum_by}
use Rattle.std.proofs.lemmas.List.{length-map, length-replicate}
use Rattle.std.proofs.lemmas.List.Elements.{All-nil, All-replicate}
use Rattle.std.proofs.lemmas.List.Sums.{sum_by-cons}
use Rattle.card_closing.proofs.Growing.{rows_grow}
use Rattle.card_closing.specs.Accruals.{Accrued, nothing_accrued}
use Rattle.card_closing.specs.Rows.{Rows, no_rows}
use Rattle.card_model.specs.Books.{Book, empty_book}
use Rattle.card_model.specs.Closing.{first_day_of}
use Rattle.card_model.specs.Cycles.{Seen}
use Rattle.card_model.specs.Entries.{AreBalances}
use Rattle.card_model.specs.Folds.{book_after}
use Rattle.card_model.specs.Interest.{accrual, days_from, row}
use Rattle.card_model.specs.Segments.{SegmentTerms, kept_segment}
use Rattle.card_rates.specs.RateBooks.{Rates, rates_of}
use Rattle.card_segments.proofs.Sums.{sums-start}
use Rattle.card_rates.specs.Segments.{AreUnused, account_segments}
use Rattle.card_events.specs.Money.{daily}
use Rattle.card_daily.specs.Given.{Given, IsSound, account_in, book_in, opened_in, seen_in}
use Rattle.card_daily.specs.Stands.{AreBefore, HaveAccrued, IsBlank, StandFor, before, rows_through}
use Rattle.card_daily.specs.declared.state.State.{State}
use Rattle.card_daily.specs.declared.track.Track.{Track}

-- ---- the book
pub before-opening : (g : Given) → before g (opened_in g) ≡ empty_book
unfolding book_after
before-opening g = let none : opened_in g - opened_in g ≡ 0 = omega arith in ap (book_in g) none

-- ---- rows and accruals
rows-none : (g : Given) (t : SegmentTerms) → 1 ≤ opened_in g → no_rows (opened_in g) ≡ rows_through g (opened_in g) (opened_in g - 1) empty_book t
rows-none g t f =
    let e : opened_in g - 1 + 1 ≡ opened_in g = omega arith in
    let seen = seen_in g (opened_in g - 1) in
    sym (subst (λ d. rows_through g d (opened_in g - 1) empty_book t ≡ no_rows d) e (rows_grow.begins (account_in g) seen empty_book t (All-nil (λ x. x.day ≤ seen.day))))

same-rows : (f : SegmentTerms → Rows) (x : Rows) (gs : List SegmentTerms) → ((t : SegmentTerms) → x ≡ f t) → replicate (length gs) x ≡ map f gs
same-rows f x [] h = refl
same-rows f x (t ∷ gs) h = ap (λ r. r ∷ replicate (length gs) x) (h t) ∙ ap (λ l. f t ∷ l) (same-rows f x gs h)

no-times : (n : ℕ) → 0 * n ≡ 0
no-times n = omega arith

accrual-none : (seen : Seen) (t : SegmentTerms) → accrual seen empty_book t ≡ 0
unfolding accrual row
accrual-none seen t = none (days_from seen t.begins)
  where
    none : (days : List ℕ) → sum_by (λ day. row [] t.id day * daily t.rate) days ≡ 0
    none [] = refl
    none (d ∷ ds) =
        let f : ℕ → ℕ = λ day. row [] t.id day * daily t.rate in
        let more = sum_by-cons f d ds in
        let rest = none ds in
        let here : f d ≡ 0 = no-times (daily t.rate) in
        more ∙ (ap (λ n. n + sum_by f ds) here ∙ ap (λ n. 0 + n) rest)

at-any : (n i : ℕ) → get_or (replicate n nothing_accrued) i nothing_accrued ≡ nothing_accrued
at-any zero i = refl
at-any (suc n) zero = refl
at-any (suc n) (suc i) = at-any n i

-- ---- state and track
-- nothing is owed, and nothing was kept of any day
pub record IsNew (g : Given) (s : State) : Type 0 where
  pub segments : s.segments.segments ≡ account_segments g.shared.holidays g.history
  pub unused : AreUnused s.segments
  pub rates : s.rates ≡ rates_of g.shared.holidays g.history []
  pub rows : s.rows.items ≡ replicate (length s.segments.segments - 2) (no_rows (opened_in g))
  pub accruals : s.accruals.items ≡ replicate (length s.segments.segments - 2) nothing_accrued

count : (g : Given) (s : State) → IsNew g s → length s.segments.segments - 2 ≡ length s.rates.segments
count g s h =
    let all = (rates_of g.shared.holidays g.history []).segments in
    let kept : length s.segments.segments ≡ suc (suc (length (map kept_segment all))) = ap length h.segments in
    let same : length (map kept_segment all) ≡ length all = length-map all kept_segment in
    let rates : length s.rates.segments ≡ length all = ap (λ (r : Rates). length r.segments) h.rates in
    omega (arith, kept, same, rates)

stand : (g : Given) (s : State) (t : Track) → IsSound g → IsNew g s → IsBlank t → StandFor g (rows_through g (opened_in g) (opened_in g - 1) empty_book) empty_book s t
stand g s t sound h blank =
    let first = sound.opening.first in
    record {
      entries = blank.entries;
      cycles = blank.cycles;
      fees = blank.fees;
      rates = h.rates;
      segments = h.segments;
      sums = subst (AreBalances []) (sym h.unused) (sums-start (length s.segments.segments));
      rows = h.rows ∙ (ap (λ n. replicate n (no_rows (opened_in g))) (count g s h) ∙ same-rows (rows_through g (opened_in g) (opened_in g - 1) empty_book) (no_rows (opened_in g)) s.rates.segments (λ t. rows-none g t (omega (arith, first))));
      accruals = ap length h.accruals ∙ (length-replicate (length s.segments.segments - 2) nothing_accrued ∙ count g s h);
    }

accrued : (g : Given) (s : State) → IsNew g s → HaveAccrued g (opened_in g - 1) empty_book s.rates.segments s.accruals.items
accrued g s h =
    let n = length s.segments.segments - 2 in
    record {
      sums = λ t there sort over. ap (λ (l : List Accrued). (get_or l (t.id - 2) nothing_accrued).sum) h.accruals ∙ (ap (λ (a : Accrued). a.sum) (at-any n (t.id - 2)) ∙ sym (accrual-none (seen_in g (opened_in g - 1)) t));
      days = subst (All (λ a. a.days ≤ opened_in g - 1 + 1 - opened_in g)) (sym h.accruals) (All-replicate (λ a. a.days ≤ opened_in g - 1 + 1 - opened_in g) n nothing_accrued (omega arith));
    }

-- they stand for the book of no day
pub starts : (g : Given) (s : State) (t : Track) → IsSound g → IsNew g s → IsBlank t → AreBefore g (opened_in g) s t
starts g s t sound h blank =
    let o = opened_in g in
    record {
      stand = subst (λ (b : Book). StandFor g (rows_through g (first_day_of (account_in g) b) (o - 1) b) b s t) (sym (before-opening g)) (stand g s t sound h blank);
      accrued = subst (λ (b : Book). HaveAccrued g (o - 1) b s.rates.segments s.accruals.items) (sym (before-opening g)) (accrued g s h);
    }
