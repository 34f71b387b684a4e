-- The parts of a state at a closing, by their counts.
use Rattle.std.proofs.Common.{◌≡◌, ℕ, ◌+◌, ◌-◌, ◌≤◌, List, [], ◌∷◌, ◌++◌, append-nil, append_assoc, drop, length, length-append, map, replicate, refl, sym, ap, ◌∙◌, arith, ℤ, pos}
use Rattle.std.proofs.lemmas.List.{drop-replicate, length-map, replicate_more}
use Rattle.card_events.specs.declared.kept.Kept.{Kept}
use Rattle.card_closing.specs.Accruals.{Accrued, nothing_accrued}
use Rattle.card_closing.specs.Rows.{Rows, no_rows}
use Rattle.card_model.specs.Segments.{SegmentTerms, kept_segment}
use Rattle.card_model.specs.declared.segment.Segment.{Segment}
use Rattle.card_rates.specs.RateBooks.{rates_of}
use Rattle.card_rates.specs.Segments.{account_segments}
use Rattle.card_daily.specs.Given.{Given}
use Rattle.card_daily.specs.declared.track.Track.{Track}
use Rattle.card_book.proofs.NewSegments.{rated-grow}
use Rattle.card_book.specs.Marks.{rated_in}
use Rattle.card_book.specs.Renewed.{HasNewPosts}
use Rattle.card_book.specs.Stands.{Summary}

constant : (x : Rows) (ts : List SegmentTerms) → replicate (length ts) x ≡ map (λ (t : SegmentTerms). x) ts
constant x [] = refl
constant x (t ∷ ts) = ap (λ (l : List Rows). x ∷ l) (constant x ts)

-- no rows, of each segment
pub rows-each : (n d first : ℕ) (ts : List SegmentTerms) (rows : List Rows) → n ≡ length ts → d ≡ first → rows ≡ replicate n (no_rows d) → rows ≡ map (λ (t : SegmentTerms). no_rows first) ts
rows-each n d first ts rows e f h =
    h ∙ (ap (λ (m : ℕ). replicate m (no_rows d)) e ∙ (ap (λ (x : ℕ). replicate (length ts) (no_rows x)) f ∙ constant (no_rows first) ts))

-- there is a rate for each segment but Credit and Held
pub rates-count : (holidays : List ℕ) (history : List Kept) → length (rates_of holidays history []).segments + 2 ≡ length (account_segments holidays history)
rates-count holidays history = let long = length-map (rates_of holidays history []).segments kept_segment in omega (arith, long)

-- ---- one with nothing more
pub accruals-first : (xs ys : List Accrued) → ys ≡ xs → ys ≡ xs ++ replicate 0 nothing_accrued
accruals-first xs ys e = e ∙ sym (append-nil xs)

pub accruals-more : (xs ys zs : List Accrued) (n : ℕ) → ys ≡ xs ++ replicate n nothing_accrued → zs ≡ ys ++ nothing_accrued ∷ [] → zs ≡ xs ++ replicate (n + 1) nothing_accrued
accruals-more xs ys zs n e f =
    f ∙ (ap (λ (l : List Accrued). l ++ nothing_accrued ∷ []) e
    ∙ (append_assoc xs (replicate n nothing_accrued) (nothing_accrued ∷ []) ∙ ap (λ (l : List Accrued). xs ++ l) (replicate_more n nothing_accrued)))

-- ---- balances over the first of those of which nothing is owed
pub balances-over : (n : ℕ) (first all now : List ℤ) → all ≡ replicate n (pos 0) → now ≡ first ++ drop (length first) all → now ≡ first ++ replicate (n - length first) (pos 0)
balances-over n first all now e f =
    f ∙ ap (λ (l : List ℤ). first ++ l) (ap (λ (l : List ℤ). drop (length first) l) e ∙ drop-replicate (length first) n (pos 0))

-- there are no fewer segments than there were
pub fewer-segments : (old g : Given) (day : ℕ) (b : Summary) (t : Track) → HasNewPosts old g day b t
    → length b.state.segments.segments ≤ length (account_segments g.shared.holidays g.history)
fewer-segments old g day b t h =
    let grown = rated-grow old g h.new h.continues.anchor h.continues.terms h.history in
    let long = ap (λ (ts : List SegmentTerms). length ts) grown.is ∙ length-append (rated_in old) grown.rest in
    let then = ap (λ (l : List Segment). length l) h.stands.folded.stand.segments in
    let many = length-map (rated_in old) kept_segment in
    let all = length-map (rated_in g) kept_segment in
    omega (arith, long, then, many, all)
