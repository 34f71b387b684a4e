use Rattle.card_model.proofs.Isolation.{isolation as law}
use Rattle.card_model.specs.Machine.{run_from}
use Rattle.card_desk.proofs.Apart.{looks-alike}
use Rattle.card_desk.proofs.laws.isolation.Goals as goal

pub returns-clause-lists : goal.returns-clause-lists
returns-clause-lists c = law

pub returns-clause-cycles : goal.returns-clause-cycles
returns-clause-cycles c name s xs ys full full' same shared = looks-alike name (run_from s xs) (run_from s ys) (law name s xs ys full full' same shared).own
