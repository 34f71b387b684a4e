-- The segments and rates that are kept of an account.
use Rattle.std.specs.Prelude.{ℕ, ◌≡◌, List, []}
use Rattle.card_events.specs.SharedRows.{SharedRows}
use Rattle.card_events.specs.declared.kept.Kept.{Kept}
use Rattle.card_model.specs.Cycles.{IssuedRow}
use Rattle.card_model.specs.Segments.{SegmentTerms}
use Rattle.card_model.specs.declared.segment.Segment.{Segment}
use Rattle.card_rates.specs.Laws.{segments_on}
use Rattle.card_rates.specs.RateBooks.{Rates, rates_of}
use Rattle.card_rates.specs.Segments.{account_segments}

-- They are those that the posts of the account add. The holidays count for none of them
pub record AreOf (history : List Kept) (kept : List Segment) (rated : Rates) : Type 0 where
  pub segments : (holidays : List ℕ) → kept ≡ account_segments holidays history
  pub rates : (holidays : List ℕ) → rated.segments ≡ (rates_of holidays history []).segments

-- it holds of the segments that a day sees of each account of which these are kept
abbrev pub OfSeenSegments : ℕ → List Segment → Rates → (List SegmentTerms → Type 0) → Type 0
OfSeenSegments today kept rated P =
    (history : List Kept) (issued : List IssuedRow) (shared : SharedRows) → AreOf history kept rated → P (segments_on history issued shared today)
