use Rattle.std.proofs.Common.{nat_lt, rules}
use Rattle.std.proofs.lemmas.List.Sorted.{IsPartitionPoint-from_clause}
use Rattle.card_shared.specs.declared.index_table.Row.{Row}
use Rattle.card_shared.proofs.IndexFound.{less-down, parted, point-leading}
use Rattle.card_shared.proofs.index_table.before.Goals as goal

pub returns : goal.returns
returns c =
    let point = IsPartitionPoint-from_clause (λ (r : Row). nat_lt r.day c.args.day) _ _ c.partition_point.ensures.partitioned (parted (λ x. nat_lt x c.args.day) (less-down c.args.day) 0 c.args.rows.now c.requires) (λ a r q k. search rules) in
    point-leading (λ r. nat_lt r.day c.args.day) c.args.rows.now c.partition_point.result point.0 point.1 c.partition_point.ensures.bound
