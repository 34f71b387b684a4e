use Rattle.card_cases.proofs.Aged.{four, told-today}
use Rattle.card_cases.specs.Aged.{charged, later_rolls}
use Rattle.card_cases.proofs.desks.owed.Goals as goal

pub returns-in_err-show-clause-four : goal.returns-in_err-show-clause-four
returns-in_err-show-clause-four g c = four c.name-account.result c.args.desk.now c.args.steps.now c.show.new.steps c.name-account.ensures c.requires.state c.requires.near c.show.ensures.most

pub returns-clause-reached : goal.returns-clause-reached
returns-clause-reached g c =
    let near = c.requires.near in
    told-today c.name-account.result c.args.desk.now c.show.new.self 21187 near.day later_rolls charged c.name-account.ensures c.requires.state near.is c.in_ok-show.ensures.reached.answered

pub returns-clause-four : goal.returns-clause-four
returns-clause-four g c = four c.name-account.result c.args.desk.now c.args.steps.now c.show.new.steps c.name-account.ensures c.requires.state c.requires.near c.show.ensures.most
