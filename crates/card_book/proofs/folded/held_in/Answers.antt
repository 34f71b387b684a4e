use Rattle.std.proofs.Common.{w64}
use Rattle.std.proofs.lemmas.Int.{to_z-of_z}
use Rattle.std.proofs.Common.{◌∙◌, arith, pos, get_or}
use Rattle.card_book.proofs.Told.{owing-is}
use Rattle.card_book.proofs.folded.held_in.Goals as goal

pub returns : goal.returns
returns c = to_z-of_z w64 c.balance.result (record { sfits = c.balance.type_inv }) ∙ (c.balance.ensures.value ∙ owing-is (get_or c.args.segments.now.balances 1 (pos 0)) (c.balance.ensures.signs.owing 1 (omega arith)))
