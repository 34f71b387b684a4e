use Rattle.std.proofs.Common.{◌<◌, List, inl, inr, sym, subst, arith}
use Rattle.std.specs.List.{All}
use Rattle.std.proofs.lemmas.List.Elements.{All-nil}
use Rattle.card_replay.proofs.Reached.{reach-same}
use Rattle.card_replay.proofs.Settled.{settled-today}
use Rattle.card_past.specs.declared.owed.Owed.{Owed}
use Rattle.card_replay.proofs.replay.Replay.reach_loaded.Goals as goal

-- where today is reached, nothing is owed
pub returns-in_ok-to_day-clause-leaves : goal.returns-in_ok-to_day-clause-leaves
returns-in_ok-to_day-clause-leaves g c = λ _.
    let today = c.args.today in
    let new = c.to_day.new.self in
    let reached = c.in_ok-to_day.ensures.reached in
    let may = reach-same today c.args.self.now new c.to_day.ensures.same (omega (arith, reached)) c.requires.reach in
    let none = (settled-today c.args.shared.now today new c.to_day.ensures.replay may reached).owed in
    subst (λ (os : List Owed). All (λ (o : Owed). o.closing < c.args.from) os) (sym none) (All-nil (λ (o : Owed). o.closing < c.args.from))

pub returns-in_ok-to_day-clause-all : goal.returns-in_ok-to_day-clause-all
returns-in_ok-to_day-clause-all g c =
    let today = c.args.today in
    let new = c.to_day.new.self in
    let reached = c.in_ok-to_day.ensures.reached in
    let may = reach-same today c.args.self.now new c.to_day.ensures.same (omega (arith, reached)) c.requires.reach in
    inr (settled-today c.args.shared.now today new c.to_day.ensures.replay may reached).owed

pub returns-in_err-to_day-clause-all : goal.returns-in_err-to_day-clause-all
returns-in_err-to_day-clause-all g c = inl c.in_err-to_day.ensures.late
