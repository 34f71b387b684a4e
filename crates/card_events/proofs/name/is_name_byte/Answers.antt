-- The table is held against the definition at each of the 256 bytes.
use Rattle.std.proofs.Common.{eqb, not, get_or, refl, arith}
use Rattle.std.proofs.lemmas.Bool.{agree_below_at}
use Rattle.card_events.specs.declared.name.TheConstants.{CLASS}
use Rattle.card_events.specs.Names.{is_name_byte}
use Rattle.card_events.proofs.name.is_name_byte.Goals as goal

pub returns : goal.returns
returns c = agree_below_at (λ b. not (eqb (get_or CLASS b 0) 45)) is_name_byte 256 c.args.b refl (omega arith)
