use Rattle.std.proofs.Common.{◌≡◌, ◌-◌, List, drop, map}
use Rattle.std.specs.List.{filter}
use Rattle.card_model.specs.Segments.{SegmentTerms, kept_segment, plan_segment}
use Rattle.card_effects.specs.Standing.{is_added}
use Rattle.card_rates.specs.RateBooks.{AreByNumber}
use Rattle.card_effects.proofs.place.plan_segment.Given as goal

abbrev pub invariant-loop-id : goal.invariant-loop-id
invariant-loop-id l =
    (gs : List SegmentTerms) → AreByNumber 2 gs → drop 2 l.segments.segments ≡ map kept_segment gs
    → plan_segment l.post (filter (is_added l.day) gs) ≡ plan_segment l.post (filter (is_added l.day) (drop (l.id - 2) gs))
