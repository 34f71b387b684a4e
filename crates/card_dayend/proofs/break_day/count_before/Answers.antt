use Rattle.std.proofs.Common.{ltb-false, ltb-true, nat_lt, rules, arith}
use Rattle.std.proofs.lemmas.List.Sorted.{IsPartitionPoint-from_clause, IsPartitionedBy-ltb}
use Rattle.card_model.specs.Cycles.{IssuedRow}
use Rattle.card_dayend.proofs.break_day.count_before.Goals as goal

pub returns : goal.returns
returns c =
    let parted = IsPartitionedBy-ltb (λ (r : IssuedRow). r.day) _ c.args.day c.requires in
    let point = IsPartitionPoint-from_clause (λ (r : IssuedRow). nat_lt r.day c.args.day) _ _ c.partition_point.ensures.partitioned parted (λ a r q k. search rules) in
    record { front = λ k d l m. ltb-true _ _ (point.0 k d (omega arith) l); back = λ k d l m. ltb-false _ _ (point.1 k d l m) }
