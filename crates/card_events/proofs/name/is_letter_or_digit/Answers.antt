-- The table is held against the definition at each of the 256 bytes.
use Rattle.std.proofs.Common.{eqb, get_or, refl, arith}
use Rattle.std.proofs.lemmas.Bool.{agree_below_at}
use Rattle.card_events.specs.declared.name.TheConstants.{CLASS}
use Rattle.card_events.specs.Names.{is_letter_or_digit}
use Rattle.card_events.proofs.name.is_letter_or_digit.Goals as goal

pub returns : goal.returns
returns c = agree_below_at (λ b. eqb (get_or CLASS b 0) 108) is_letter_or_digit 256 c.args.b refl (omega arith)
