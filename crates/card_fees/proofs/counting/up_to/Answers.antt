use Rattle.std.proofs.Common.{rules, nat_le, arith}
use Rattle.std.proofs.lemmas.List.Sorted.{IsPartitionPoint-from_clause}
use Rattle.card_events.specs.declared.kept.Slot.{Slot}
use Rattle.card_fees.proofs.Slots.{parted-by, take-passes}
use Rattle.card_fees.proofs.counting.up_to.Goals as goal

pub returns : goal.returns
returns c =
    let point = IsPartitionPoint-from_clause (λ (y : Slot). nat_le y.day c.args.to) _ _ c.partition_point.ensures.partitioned (parted-by c.args.to c.args.slots.now c.requires) (λ a r q k. search rules) in
    take-passes (λ (y : Slot). nat_le y.day c.args.to) c.args.slots.now c.partition_point.result (λ k d l m. point.0 k d (omega arith) l) (λ k d l m. point.1 k d l m)
