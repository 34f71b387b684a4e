-- The bounds of the slots of some days.
use Rattle.std.proofs.Common.{Bool, ◌≤ℤ◌, pos, arith, List}
use Rattle.std.specs.List.{filter}
use Rattle.std.proofs.lemmas.List.Elements.{All-filter}
use Rattle.std.proofs.lemmas.List.Sums.{length-filter, count_by-le-length}
use Rattle.card_events.specs.declared.kept.Slot.{Slot}
use Rattle.card_posts.specs.Posted.{AreBounded}

-- of bounded slots those that pass a test are bounded
pub bounded-filter : (p : Slot → Bool) (xs : List Slot) → AreBounded xs → AreBounded (filter p xs)
bounded-filter p xs b = record {
  count = let long = length-filter p xs in let few = count_by-le-length p xs in omega (arith, long, few, b.count);
  low = All-filter p (λ (s : Slot). pos 0 ≤ℤ s.cents) xs b.low;
  high = All-filter p (λ (s : Slot). s.cents ≤ℤ pos 999_999_999_999) xs b.high;
}
