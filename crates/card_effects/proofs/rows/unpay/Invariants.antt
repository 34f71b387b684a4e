use Rattle.std.proofs.Common.{◌≡◌}
use Rattle.card_closing.specs.Rows.{without_post}
use Rattle.card_effects.proofs.Carried.{changed_to}
use Rattle.card_effects.proofs.rows.unpay.Given as goal

abbrev pub invariant-loop-row : goal.invariant-loop-row
invariant-loop-row l = l.rows ≡ changed_to (without_post l.post) l.row-index l.fn.rows
