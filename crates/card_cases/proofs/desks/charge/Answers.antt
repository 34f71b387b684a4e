use Rattle.std.proofs.Common.{◌∙◌, refl}
use Rattle.std.proofs.lemmas.Result.{on_ok_weaker}
use Rattle.card_cases.proofs.Aged.{charge-of, dated-charge, near, six, takes-charge, whole}
use Rattle.card_cases.proofs.desks.charge.Goals as goal

pub carry-requires-clause-dated : goal.carry-requires-clause-dated
carry-requires-clause-dated g c =
    let is = charge-of c.post_of-request.result _ c.day.result c.num.result c.post_of-request.ensures refl c.day.ensures c.num.ensures in
    dated-charge c.post_of-request.result is

pub returns-clause-state : goal.returns-clause-state
returns-clause-state g c =
    let is = charge-of c.post_of-request.result _ c.day.result c.num.result c.post_of-request.ensures refl c.day.ensures c.num.ensures in
    on_ok_weaker c.carry.result (λ e. e ∙ takes-charge c.args.desk.now.state c.post_of-request.result c.requires.state is) c.carry.ensures.state

pub returns-clause-near : goal.returns-clause-near
returns-clause-near g c =
    let is = charge-of c.post_of-request.result _ c.day.result c.num.result c.post_of-request.ensures refl c.day.ensures c.num.ensures in
    near c.carry.result c.args.desk.now c.carry.new.desk c.post_of-request.result c.requires.state c.requires.reached is c.carry.ensures.reached

pub returns-clause-six : goal.returns-clause-six
returns-clause-six g c =
    let is = charge-of c.post_of-request.result _ c.day.result c.num.result c.post_of-request.ensures refl c.day.ensures c.num.ensures in
    six c.args.desk.now c.post_of-request.result c.args.steps.now c.carry.new.steps c.requires.state c.requires.reached is c.carry.ensures.most

pub returns-clause-whole : goal.returns-clause-whole
returns-clause-whole g c = whole
