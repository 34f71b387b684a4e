use Rattle.std.proofs.Common.{◌≡◌, ◌-◌, ◌++◌, List, drop, map}
use Rattle.card_model.specs.Segments.{SegmentTerms, kept_segment}
use Rattle.card_rates.specs.RateBooks.{AreByNumber}
use Rattle.card_effects.specs.Places.{numbers_of}
use Rattle.card_effects.proofs.place.numbers_of.Given as goal

abbrev pub invariant-loop-id : goal.invariant-loop-id
invariant-loop-id l =
    (gs : List SegmentTerms) → AreByNumber 2 gs → drop 2 l.segments.segments ≡ map kept_segment gs
    → l.list.items ++ numbers_of l.place (drop (l.id - 2) gs) ≡ numbers_of l.place gs
