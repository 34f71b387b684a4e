use Rattle.std.proofs.Common.{◌∙◌, inl, inr, refl, sym, arith}
use Rattle.std.proofs.lemmas.Bool.{false≢true}
use Rattle.card_replay.proofs.Reached.{reach-same}
use Rattle.card_replay.proofs.Settled.{settled-today}
use Rattle.card_replay.proofs.replay.Replay.reach_for.Goals as goal

-- ---- where the post doesn't ask for it
pub returns-then-not-needs_today-clause-same : goal.returns-then-not-needs_today-clause-same
returns-then-not-needs_today-clause-same g c = record { lists = refl; corrected = refl; room = λ e. e }

pub returns-then-not-needs_today-clause-ready : goal.returns-then-not-needs_today-clause-ready
returns-then-not-needs_today-clause-ready g c = λ needs. absurd (false≢true (sym c.if-not-needs_today.true ∙ (c.needs_today.ensures ∙ needs)))

pub returns-then-not-needs_today-clause-reached : goal.returns-then-not-needs_today-clause-reached
returns-then-not-needs_today-clause-reached g c = inl refl

pub returns-then-not-needs_today-clause-idle : goal.returns-then-not-needs_today-clause-idle
returns-then-not-needs_today-clause-idle g c = λ not. (refl, refl)

pub returns-then-not-needs_today-clause-all : goal.returns-then-not-needs_today-clause-all
returns-then-not-needs_today-clause-all g c = inl refl

-- ---- today
pub returns-clause-all : goal.returns-clause-all
returns-clause-all g c =
    let today = c.args.today in
    let new = c.to_day.new.self in
    let reached = c.in_ok-to_day.ensures.reached in
    let may = reach-same today c.args.self.now new c.to_day.ensures.same (omega (arith, reached)) c.requires.reach in
    inr (settled-today c.args.shared.now today new c.to_day.ensures.replay may reached).owed

pub returns-in_err-to_day-clause-all : goal.returns-in_err-to_day-clause-all
returns-in_err-to_day-clause-all g c = inl c.in_err-to_day.ensures.late

pub returns-clause-idle : goal.returns-clause-idle
returns-clause-idle g c = λ not. absurd (false≢true (sym not ∙ (sym c.needs_today.ensures ∙ c.if-not-needs_today.false)))

pub returns-in_err-to_day-clause-idle : goal.returns-in_err-to_day-clause-idle
returns-in_err-to_day-clause-idle g c = λ not. absurd (false≢true (sym not ∙ (sym c.needs_today.ensures ∙ c.if-not-needs_today.false)))

pub returns-clause-ready : goal.returns-clause-ready
returns-clause-ready g c = λ needs. c.in_ok-to_day.ensures.reached

pub returns-clause-reached : goal.returns-clause-reached
returns-clause-reached g c = inr c.in_ok-to_day.ensures.reached

pub returns-in_err-to_day-clause-reached : goal.returns-in_err-to_day-clause-reached
returns-in_err-to_day-clause-reached g c = inl c.in_err-to_day.ensures.err
