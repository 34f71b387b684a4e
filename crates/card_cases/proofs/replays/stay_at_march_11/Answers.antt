use Rattle.std.proofs.Common.{◌≡◌, ◌+◌, ap, ◌∙◌, subst, arith}
use Rattle.std.specs.Prelude.{OnOk}
use Rattle.card_replay.specs.Steps.{steps_to}
use Rattle.card_cases.proofs.Reached.{is-today, may-reach, no-step}
use Rattle.card_cases.proofs.replays.stay_at_march_11.Goals as goal

pub returns-clause-none : goal.returns-clause-none
returns-clause-none g c =
    let count : steps_to c.day.result c.args.shared.now c.args.account.now ≡ 0 =
    ap (λ d. steps_to d c.args.shared.now c.args.account.now) c.day.ensures ∙ no-step c.args.shared.now c.args.account.now c.requires.alone c.requires.nothing c.requires.today.reached in
    let none : c.args.steps.now + steps_to c.day.result c.args.shared.now c.args.account.now ≡ c.args.steps.now = omega (arith, count) in
    subst (λ n. OnOk c.to_day.result (c.to_day.new.steps ≡ n)) none c.to_day.ensures.steps

pub returns-clause-today : goal.returns-clause-today
returns-clause-today g c =
    is-today c.to_day.result 19793 c.day.result c.args.shared.now c.args.account.now c.to_day.new.self c.requires.alone c.day.ensures (omega arith) c.to_day.ensures.same c.to_day.ensures.replay c.to_day.ensures.reached

pub to_day-requires-clause-reach : goal.to_day-requires-clause-reach
to_day-requires-clause-reach g c =
    let day = c.day.ensures in
    let reached = c.requires.today.reached in
    may-reach c.day.result c.args.account.now c.requires.alone (omega (arith, day, reached)) (omega (arith, day)) (omega (arith, day))
