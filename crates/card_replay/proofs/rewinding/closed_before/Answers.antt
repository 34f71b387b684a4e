use Rattle.std.proofs.Common.{ℕ, ◌-◌, ◌<◌, ◌≤◌, min, sym, ap, ◌∙◌, arith}
use Rattle.card_events.specs.Billing.{cycle_of}
use Rattle.card_past.proofs.CycleBefore.{none-before}
use Rattle.card_replay.specs.Replays.{day_reached}
use Rattle.card_replay.proofs.rewinding.closed_before.Goals as goal

within : (from day last : ℕ) → day ≤ last → min from day ≤ last
within from day last l = omega (arith, l)

early : (from day opened : ℕ) → day < opened → min from day < opened
early from day opened l = omega (arith, l)

pub cycles_before-requires-clause-last : goal.cycles_before-requires-clause-last
cycles_before-requires-clause-last c =
    let last = within c.args.from c.in-Some.reached 47481 c.in-Some.ensures.last in
    omega (arith, c.earlier-day.ensures, last)

pub returns-in-Some : goal.returns-in-Some
returns-in-Some c =
    let a = c.args.anchor.now in
    c.cycles_before.ensures ∙ (ap (λ day. cycle_of a day - 1) c.earlier-day.ensures ∙ ap (λ o. cycle_of a (min c.args.from (day_reached a.opened o)) - 1) c.in-Some.ensures.value)

pub returns-in-None : goal.returns-in-None
returns-in-None c =
    let a = c.args.anchor.now in
    let first = c.requires.opening.first in
    let before = early c.args.from (a.opened - 1) a.opened (omega (arith, first)) in
    sym (none-before a (min c.args.from (a.opened - 1)) before) ∙ ap (λ o. cycle_of a (min c.args.from (day_reached a.opened o)) - 1) c.in-None.ensures.value
