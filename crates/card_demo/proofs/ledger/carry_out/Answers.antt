use Rattle.std.proofs.Common.{ap, ◌∙◌}
use Rattle.card_events.specs.declared.reply.Reply.{Reply}
use Rattle.card_model.specs.Machine.{State}
use Rattle.card_demo.specs.Progress.{is_refusal}
use Rattle.card_demo.proofs.ledger.carry_out.Goals as goal

pub returns-in-Ok-clause-refused : goal.returns-in-Ok-clause-refused
returns-in-Ok-clause-refused c = c.is_refusal.ensures ∙ ap (λ (x : State × Reply). is_refusal x.1) c.in-Ok.ensures.ok.step_is

pub returns-in-Ok-clause-state : goal.returns-in-Ok-clause-state
returns-in-Ok-clause-state c = ap (λ (x : State × Reply). x.0) c.in-Ok.ensures.ok.step_is
