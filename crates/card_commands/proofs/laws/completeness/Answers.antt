use Rattle.card_commands.proofs.WorldLemmas.{calm}
use Rattle.card_commands.proofs.laws.completeness.Goals as goal

pub returns : goal.returns
returns g c = calm c.load_of_rows.ensures.not_damaged
