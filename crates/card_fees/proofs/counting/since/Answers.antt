use Rattle.std.proofs.Common.{rules, nat_le, nat_lt, arith, ◌∙◌, subst, sym}
use Rattle.std.proofs.lemmas.List.Sorted.{IsPartitionPoint-from_clause}
use Rattle.card_events.specs.declared.kept.Slot.{Slot}
use Rattle.card_posts.specs.Order.{IsAscending}
use Rattle.card_fees.proofs.Slots.{ascending-drop, drop-passes, parted-before, since-other, take-rest}
use Rattle.card_fees.proofs.counting.since.Goals as goal

pub returns-clause-value : goal.returns-clause-value
returns-clause-value c =
    let point = IsPartitionPoint-from_clause (λ (y : Slot). nat_lt y.day c.args.from) _ _ c.partition_point.ensures.partitioned (parted-before c.args.from c.args.slots.now c.requires) (λ a r q k. search rules) in
    take-rest c.partition_point.result c.args.slots.now
    ∙ drop-passes (λ (y : Slot). nat_lt y.day c.args.from) (λ (y : Slot). nat_le c.args.from y.day) c.args.slots.now c.partition_point.result (since-other c.args.from) (λ k d l m. point.0 k d (omega arith) l) (λ k d l m. point.1 k d l m)

pub returns-clause-order : goal.returns-clause-order
returns-clause-order c = subst IsAscending (sym (take-rest c.partition_point.result c.args.slots.now)) (ascending-drop c.partition_point.result c.args.slots.now c.requires)
