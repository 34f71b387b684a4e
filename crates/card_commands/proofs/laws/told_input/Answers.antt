use Rattle.card_commands.specs.Outside.{Wrote, WroteFront}
use Rattle.card_commands.proofs.ToldLemmas.{read_all, read_first}
use Rattle.card_commands.proofs.laws.told_input.Goals as goal

pub returns-clause-all : goal.returns-clause-all
returns-clause-all g c = λ old new s refused input is ran. read_all old new s refused input is ran

pub returns-clause-first : goal.returns-clause-first
returns-clause-first g c = λ old new s input is ran. read_first old new (Wrote old new s) input is ran

pub returns-clause-front : goal.returns-clause-front
returns-clause-front g c = λ old new s input is ran. read_first old new (WroteFront old new s) input is ran
