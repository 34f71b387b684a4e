use Rattle.card_model.specs.Machine.{start}
use Rattle.card_desk.proofs.LawLemmas.{sound_rows, sound_on, never_damaged}
use Rattle.card_desk.proofs.RunLemmas.{run_again}
use Rattle.card_desk.proofs.laws.load_of_rows.Goals as goal

pub returns-clause-sound : goal.returns-clause-sound
returns-clause-sound c = sound_rows

pub returns-clause-state : goal.returns-clause-state
returns-clause-state c = run_again start

pub returns-clause-goes_on : goal.returns-clause-goes_on
returns-clause-goes_on c = sound_on

pub returns-clause-not_damaged : goal.returns-clause-not_damaged
returns-clause-not_damaged c = never_damaged
