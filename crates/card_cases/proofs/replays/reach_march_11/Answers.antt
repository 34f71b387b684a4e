use Rattle.std.proofs.Common.{◌≡◌, ◌+◌, ap, ◌∙◌, subst, arith}
use Rattle.std.specs.Prelude.{OnOk}
use Rattle.card_replay.specs.Steps.{steps_to}
use Rattle.card_cases.proofs.Reached.{is-today, may-reach, one-step}
use Rattle.card_cases.proofs.replays.reach_march_11.Goals as goal

pub returns-clause-one : goal.returns-clause-one
returns-clause-one g c =
    let count : steps_to c.day.result c.args.shared.now c.args.account.now ≡ 1 =
    ap (λ d. steps_to d c.args.shared.now c.args.account.now) c.day.ensures ∙ one-step c.args.shared.now c.args.account.now c.requires.alone c.requires.nothing c.requires.today.reached in
    subst (λ n. OnOk c.to_day.result (c.to_day.new.steps ≡ c.args.steps.now + n)) count c.to_day.ensures.steps

pub returns-clause-today : goal.returns-clause-today
returns-clause-today g c =
    is-today c.to_day.result 19793 c.day.result c.args.shared.now c.args.account.now c.to_day.new.self c.requires.alone c.day.ensures (omega arith) c.to_day.ensures.same c.to_day.ensures.replay c.to_day.ensures.reached

pub to_day-requires-clause-reach : goal.to_day-requires-clause-reach
to_day-requires-clause-reach g c =
    let day = c.day.ensures in
    let reached = c.requires.today.reached in
    may-reach c.day.result c.args.account.now c.requires.alone (omega (arith, day, reached)) (omega (arith, day)) (omega (arith, day))
