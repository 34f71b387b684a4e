use Rattle.std.proofs.Common.{ap}
use Rattle.card_statement.proofs.Steps.{summed}
use Rattle.card_statement.proofs.moves.raise.Goals as goal

pub returns : goal.returns
returns c = ap (λ z. record { day = c.args.line.now.day; kind = c.args.line.now.kind; post = c.args.line.now.post; cents = z }) (summed c.args.line.now.cents c.args.entry.now.cents c.requires.small)
