use Rattle.std.proofs.Common.{ap, ◌∙◌}
use Rattle.std.specs.Option.{option_map}
use Rattle.card_shared.specs.Rows.{fee_row}
use Rattle.card_shared.proofs.RowsFound.{found-more}
use Rattle.card_shared.proofs.table.in_force.Goals as goal

pub loop-row-preserved : goal.loop-row-preserved
loop-row-preserved c = ap (option_map fee_row) c.latest-found.ensures ∙ found-more c.args.day c.loop-row.found c.args.rows.now c.loop-row.row-index c.row-item.result c.loop-row-test.true c.row-item.is c.loop-row.invariant
