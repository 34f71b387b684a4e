-- The steps of a fold, one a span, and what it adds to the track.
use Rattle.std.proofs.Common.{◌≡◌, ℕ, ◌+◌, ◌-◌, ◌<◌, ◌≤◌, true, List, [], ◌∷◌, take, length, refl, sym, ap, ◌∙◌, subst, arith, ◌⊎◌, inl, inr}
use Rattle.std.proofs.lemmas.Bool.{cases_lt}
use Rattle.card_events.specs.Range.{last_request_day}
use Rattle.card_events.specs.History.{anchor_of}
use Rattle.card_model.specs.Books.{Book}
use Rattle.card_model.specs.Cuts.{is_break_by}
use Rattle.card_model.specs.CycleDays.{IsOpening}
use Rattle.card_model.specs.Spans.{IsSpan}
use Rattle.card_model.specs.declared.segment.Interval.{Interval}
use Rattle.card_model.proofs.Spans.{spans_are_steps, spans_are_told}
use Rattle.card_rates.specs.Laws.{AreQuiet}
use Rattle.card_rates.specs.Next.{IsNext}
use Rattle.card_rates.specs.RateBooks.{Rates}
use Rattle.card_daily.specs.Given.{Given, book_on, opened_in}
use Rattle.card_daily.specs.Stands.{Begins, before}
use Rattle.card_daily.specs.declared.track.Track.{Track}
use Rattle.card_daily.proofs.Books.{before-is}
use Rattle.card_dayend.specs.Spans.{breaks_by}
use Rattle.card_book.specs.Stands.{StandsFor, Summary, breaks_of, day_to_fold, steps_over}

-- the days before the next break day are quiet
pub next-quiet : (g : Given) (penalties : List Interval) (first to end : ℕ) → IsNext (breaks_by g penalties) first to end → AreQuiet g.history g.issued g.shared penalties first (end - first)
next-quiet g penalties first to end h = λ i l. h.none (first + i) (omega arith) (omega (arith, l))

-- the penalties of a Book are those of the day before the first that isn't folded
begun-by : (g : Given) (b : Summary) (t : Track) (first : ℕ) → StandsFor g b t → first ≡ day_to_fold g b.day → 1 ≤ first → b.state.rates.penalties ≡ (book_on g (first - 1)).penalties
begun-by g b t first h now low =
    ap (λ (r : Rates). r.penalties) h.folded.stand.rates
    ∙ (ap (λ d. (before g d).penalties) (sym now) ∙ ap (λ (x : Book). x.penalties) (before-is g first low))

-- of each day of the span they tell what those of the last day tell
told : (g : Given) (first to end i : ℕ) → IsOpening (anchor_of g.history) → to ≤ last_request_day → end ≤ to → first + i ≤ end → AreQuiet g.history g.issued g.shared (book_on g (first - 1)).penalties first (end - first)
    → breaks_of g to (first + i) ≡ is_break_by g.history g.issued g.shared (first - 1) (first + i)
told g first to end i open' last l m q =
    spans_are_told g.history g.issued g.shared first i to open' (omega (arith, l, m)) (omega (arith, last)) (λ j n. q j (omega (arith, n, m)))

span-of : (g : Given) (first to end : ℕ) → IsOpening (anchor_of g.history) → to ≤ last_request_day → IsNext (breaks_by g (book_on g (first - 1)).penalties) first to end → IsSpan (breaks_of g to) first (end - first) to
span-of g first to end open' last h =
    let q = next-quiet g (book_on g (first - 1)).penalties first to end h in
    let low = h.low in
    let high = h.high in
    record {
      quiet = λ i l. told g first to end i open' last high (omega (arith, l)) q ∙ q i l;
      within = omega (arith, low, high);
      ends = by (cases_lt end to);
    }
  where
    by : (end < to) ⊎ (to ≤ end) → (breaks_of g to (first + (end - first)) ≡ true) ⊎ (first + (end - first) ≡ to)
    by (inl l) =
        let low = h.low in
        let high = h.high in
        let place : first + (end - first) ≡ end = omega (arith, low) in
        let q = next-quiet g (book_on g (first - 1)).penalties first to end h in
        inl (told g first to end (end - first) open' last high (omega (arith, place)) q ∙ (ap (is_break_by g.history g.issued g.shared (first - 1)) place ∙ h.some l))
    by (inr l) = let low = h.low in let high = h.high in inr (omega (arith, low, high, l))

-- so a span is one step
pub span-step : (g : Given) (b : Summary) (t : Track) (first to end : ℕ) → IsOpening (anchor_of g.history) → StandsFor g b t → first ≡ day_to_fold g b.day → opened_in g ≤ first → to ≤ last_request_day
    → IsNext (breaks_by g b.state.rates.penalties) first to end → steps_over g to first ≡ 1 + steps_over g to (end + 1)
span-step g b t first to end open' h now o last n =
    let low = open'.first in
    let penalties = begun-by g b t first h now (omega (arith, low, o)) in
    let next = subst (λ ps. IsNext (breaks_by g ps) first to end) penalties n in
    let begun = n.low in
    let place : first + (end - first) + 1 ≡ end + 1 = omega (arith, begun) in
    spans_are_steps.one (breaks_of g to) first (end - first) to (span-of g first to end open' last next) ∙ ap (λ d. 1 + steps_over g to d) place

-- and behind the last day there is none
pub no-step : (g : Given) (first to : ℕ) → to < first → steps_over g to first ≡ 0
no-step g first to l = spans_are_steps.none (breaks_of g to) first to l

-- ---- the track
front : {A : Type 0} (xs ys zs : List A) → take (length xs) ys ≡ xs → take (length ys) zs ≡ ys → take (length xs) zs ≡ xs
front [] ys zs h k = refl
front (x ∷ xs) [] zs h k = cc
front (x ∷ xs) (y ∷ ys) [] h k = cc
front (x ∷ xs) (y ∷ ys) (z ∷ zs) h k =
    let first : z ≡ x = cc in
    let here : take (length xs) ys ≡ xs = cc in
    let there : take (length ys) zs ≡ ys = cc in
    ap (λ u. u ∷ take (length xs) zs) first ∙ ap (λ us. x ∷ us) (front xs ys zs here there)

-- a track that begins with one that begins with a first one begins with that
pub begins-then : (t u v : Track) → Begins t u → Begins u v → Begins t v
begins-then t u v h k = record {
  entries = front t.entries.items u.entries.items v.entries.items h.entries k.entries;
  cycles = front t.cycles.items u.cycles.items v.cycles.items h.cycles k.cycles;
  fees = front t.fees.items u.fees.items v.fees.items h.fees k.fees;
}
