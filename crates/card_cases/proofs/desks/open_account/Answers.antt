use Rattle.std.proofs.Common.{refl, ◌∙◌}
use Rattle.std.proofs.lemmas.Result.{on_ok_weaker}
use Rattle.card_cases.proofs.Aged.{dated-opening, opened-is, opened-before}
use Rattle.card_cases.proofs.desks.open_account.Goals as goal

pub carry-requires-clause-dated : goal.carry-requires-clause-dated
carry-requires-clause-dated g c = dated-opening c.post_of-request.result _ c.opening.result c.post_of-request.ensures c.opening.ensures

pub returns-clause-state : goal.returns-clause-state
returns-clause-state g c = on_ok_weaker c.carry.result (λ e. e ∙ opened-is c.args.desk.now.state c.post_of-request.result _ c.opening.result c.requires.state c.post_of-request.ensures refl c.opening.ensures) c.carry.ensures.state

pub returns-clause-reached : goal.returns-clause-reached
returns-clause-reached g c = opened-before c.carry.result c.args.desk.now c.carry.new.desk c.post_of-request.result _ c.opening.result c.requires.state c.requires.reached c.post_of-request.ensures refl c.opening.ensures c.carry.ensures.reached
