use Rattle.card_commands.proofs.WorldLemmas.{status_comes}
use Rattle.card_commands.proofs.call.billctl.Goals as goal

pub returns-clause-outcome : goal.returns-clause-outcome
returns-clause-outcome g c = (c.carry_out_words-ended.result, c.status_of.ensures, c.carry_out_words-ended.ensures)

pub returns-clause-statuses : goal.returns-clause-statuses
returns-clause-statuses g c = status_comes _ _ _ c.carry_out_words-ended.result _ c.carry_out_words-ended.ensures c.status_of.ensures
