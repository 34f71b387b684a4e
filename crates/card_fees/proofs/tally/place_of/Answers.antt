use Rattle.std.proofs.Common.{rules, arith}
use Rattle.std.proofs.lemmas.List.Sorted.{IsPartitionPoint-from_clause}
use Rattle.card_model.specs.Payments.{is_before}
use Rattle.card_events.specs.declared.kept.Slot.{Slot}
use Rattle.card_fees.proofs.Slots.{parted-in_front}
use Rattle.card_fees.proofs.Tallied.{cut-drop}
use Rattle.card_fees.proofs.tally.place_of.Goals as goal

pub returns-clause-rest : goal.returns-clause-rest
returns-clause-rest c =
    let point = IsPartitionPoint-from_clause (λ (y : Slot). is_before c.args.day c.args.number y.day y.number) _ _ c.partition_point.ensures.partitioned (parted-in_front c.args.day c.args.number c.args.slots.now c.requires) (λ a r q k. search rules) in
    cut-drop c.args.day c.args.number c.args.slots.now c.partition_point.result c.requires (λ k d l m. point.0 k d (omega arith) l) (λ k d l m. point.1 k d l m)
