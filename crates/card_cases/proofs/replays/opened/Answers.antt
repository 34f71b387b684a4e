use Rattle.std.proofs.Common.{ap, sym, subst, ◌∙◌, arith}
use Rattle.card_events.specs.History.{opening_in}
use Rattle.card_replay.specs.Replays.{opened_lists}
use Rattle.card_cases.proofs.Reached.{at-today, one-step-first, opened-alone, sound-alone}
use Rattle.card_cases.specs.Alone.{HasOpeningAlone}
use Rattle.card_cases.proofs.replays.opened.Goals as goal

pub start-requires-clause-sound : goal.start-requires-clause-sound
start-requires-clause-sound g c =
    sound-alone (opened_lists c.name-key.result c.day-opened.result c.opening.result) c.args.shared.now (opened-alone c.name-key.result c.day-opened.result c.opening.result c.day-opened.ensures c.opening.ensures) c.requires.nothing

pub returns-clause-one : goal.returns-clause-one
returns-clause-one g c =
    let before = c.in_ok-account.ensures.reached ∙ ap opening_in c.opening.ensures in
    let one = one-step-first c.args.shared.now c.in_ok-account.account c.day-opened.result c.day-opened.ensures before in
    let most = c.to_day.ensures.most in
    omega (arith, most, one)

pub returns-in_err-to_day-clause-one : goal.returns-in_err-to_day-clause-one
returns-in_err-to_day-clause-one g c =
    let before = c.in_ok-account.ensures.reached ∙ ap opening_in c.opening.ensures in
    let one = one-step-first c.args.shared.now c.in_ok-account.account c.day-opened.result c.day-opened.ensures before in
    let most = c.to_day.ensures.most in
    omega (arith, most, one)

-- ---- at its opening day
pub returns-clause-alone : goal.returns-clause-alone
returns-clause-alone g c =
    let alone = opened-alone c.name-key.result c.day-opened.result c.opening.result c.day-opened.ensures c.opening.ensures in
    subst HasOpeningAlone (sym (c.to_day.ensures.same.lists ∙ c.in_ok-account.ensures.lists)) alone

pub returns-clause-today : goal.returns-clause-today
returns-clause-today g c =
    let alone = opened-alone c.name-key.result c.day-opened.result c.opening.result c.day-opened.ensures c.opening.ensures in
    at-today 19728 c.day-opened.result c.args.shared.now c.in_ok-account.account c.to_day.new.self (subst HasOpeningAlone (sym c.in_ok-account.ensures.lists) alone) c.day-opened.ensures (omega arith)
    c.to_day.ensures.same c.to_day.ensures.replay c.in_ok-to_day.ensures.reached
