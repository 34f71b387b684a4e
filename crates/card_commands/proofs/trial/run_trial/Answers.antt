use Rattle.std.proofs.Common.{sym, subst, ◌∙◌}
use Rattle.card_model.specs.Machine.{State}
use Rattle.card_ports.specs.Written.{sink_side, TookAll, TookPart}
use Rattle.card_trial.specs.Trial.{trial_text}
use Rattle.card_commands.proofs.TrialLemmas.{front_cause, tried_all, tried_cause, tried_early, tried_front}
use Rattle.card_commands.proofs.trial.run_trial.Goals as goal

-- the run was ended early
pub returns-then-not-is_at_end-clause-ran : goal.returns-then-not-is_at_end-clause-ran
returns-then-not-is_at_end-clause-ran g c = tried_early _ _ c.args.from c.args.to _ _ c.run-ended.result (sym c.is_at_end.ensures ∙ c.if-not-is_at_end.true) c.run-ended.ensures.ran

-- the balance was written
pub returns-in-Ok-clause-ran : goal.returns-in-Ok-clause-ran
returns-in-Ok-clause-ran g c =
    let side = sink_side g.O.Sink.taken g.O.Sink.faults in
    let took = subst (λ (s : State). TookAll (side c.run-ended.new.output) (side c.balance.new.output) (trial_text c.args.from c.args.to s)) c.give_back.ensures c.in-Ok.ensures.ok in
    tried_all _ _ (side c.balance.new.output) c.args.from c.args.to _ _ c.run-ended.result (sym c.is_at_end.ensures ∙ c.if-not-is_at_end.false) c.run-ended.ensures.ran took

pub returns-in-Ok-clause-cause : goal.returns-in-Ok-clause-cause
returns-in-Ok-clause-cause g c =
    let side = sink_side g.O.Sink.taken g.O.Sink.faults in
    tried_cause _ _ (side c.balance.new.output) c.run-ended.result (sym c.is_at_end.ensures ∙ c.if-not-is_at_end.false) c.run-ended.ensures.cause c.in-Ok.ensures.ok.count

-- or a front of it
pub returns-in-Err-clause-ran : goal.returns-in-Err-clause-ran
returns-in-Err-clause-ran g c =
    let side = sink_side g.O.Sink.taken g.O.Sink.faults in
    let part = subst (λ (s : State). TookPart (side c.run-ended.new.output) (side c.balance.new.output) (trial_text c.args.from c.args.to s) c.in-Err.fault) c.give_back.ensures c.in-Err.ensures.err in
    tried_front _ _ (side c.balance.new.output) c.args.from c.args.to _ _ c.run-ended.result c.in-Err.fault _ c.ended_by_sink.ensures (sym c.is_at_end.ensures ∙ c.if-not-is_at_end.false) c.run-ended.ensures.ran part

pub returns-in-Err-clause-cause : goal.returns-in-Err-clause-cause
returns-in-Err-clause-cause g c =
    let side = sink_side g.O.Sink.taken g.O.Sink.faults in
    front_cause _ _ (side c.balance.new.output) _ c.run-ended.result c.in-Err.fault _ c.ended_by_sink.ensures (sym c.is_at_end.ensures ∙ c.if-not-is_at_end.false) c.run-ended.ensures.cause c.in-Err.ensures.err
