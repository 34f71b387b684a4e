use Rattle.card_statement.proofs.AddsUp.{statements_add_up as law}
use Rattle.card_statement.proofs.laws.statements_add_up.Goals as goal

pub returns : goal.returns
returns c = law
