use Rattle.card_cases.proofs.Aged.{told-today}
use Rattle.card_cases.specs.Aged.{opened, rolls}
use Rattle.card_cases.proofs.desks.ask.Goals as goal

pub returns-clause-reached : goal.returns-clause-reached
returns-clause-reached g c =
    told-today c.name-account.result c.args.desk.now c.show.new.self 21186 19727 rolls opened c.name-account.ensures c.requires.state c.requires.reached c.in_ok-show.ensures.reached.answered
