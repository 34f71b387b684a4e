use Rattle.std.proofs.Common.{◌≡◌, IfOk, OnOk, subst}
use Rattle.card_demo.specs.Progress.{is_refusal}
use Rattle.card_model.specs.Machine.{State, step}
use Rattle.card_demo.proofs.ledger.MemoryLedger.apply.Goals as goal

pub returns-clause-refused : goal.returns-clause-refused
returns-clause-refused c =
    subst (λ (s : State). IfOk c.carry_out.result (λ refused. refused ≡ is_refusal (step s c.args.request.now).1)) c.self.view_is c.carry_out.ensures.refused

pub returns-clause-state : goal.returns-clause-state
returns-clause-state c = subst (λ (s : State). OnOk c.carry_out.result (c.carry_out.new.desk.state ≡ (step s c.args.request.now).0)) c.self.view_is c.carry_out.ensures.state
