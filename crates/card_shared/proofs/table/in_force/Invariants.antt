use Rattle.std.proofs.Common.{◌≡◌, take}
use Rattle.std.specs.Option.{option_map}
use Rattle.card_shared.specs.Rows.{fee_row, fee_rows}
use Rattle.card_model.specs.Fees.{row_on}
use Rattle.card_shared.proofs.table.in_force.Given as goal

abbrev pub invariant-loop-row : goal.invariant-loop-row
invariant-loop-row l = option_map fee_row l.found ≡ row_on (fee_rows (take l.row-index l.rows)) l.day
