use Rattle.card_desk.proofs.LawLemmas.{desk_next}
use Rattle.card_desk.proofs.SoundLemmas.{run_none}
use Rattle.card_desk.proofs.laws.rows_of_a_desk.Goals as goal

pub returns-clause-first : goal.returns-clause-first
returns-clause-first c = run_none

pub returns-clause-next : goal.returns-clause-next
returns-clause-next c = desk_next
