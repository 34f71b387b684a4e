use Rattle.std.proofs.Common.{◌≡◌, ℕ, ◌<◌, ◌≤◌, Some, sym, ◌∙◌, arith, subst}
use Rattle.card_events.specs.Billing.{cycle_of}
use Rattle.card_events.specs.Civil.{day_of_month}
use Rattle.card_events.specs.Range.{last_request_day}
use Rattle.card_events.specs.History.{anchor_of}
use Rattle.card_fees.proofs.Days.{due-later}
use Rattle.card_model.specs.declared.due_cycle.DueCycle.{DueCycle}
use Rattle.card_model.specs.Cycles.{Cycle, last_cycle}
use Rattle.card_daily.proofs.ClosingDay.{IsLastAt, closes-of, last-at, left-is}
use Rattle.card_daily.proofs.Counting.{list-is, of-posts, stays}
use Rattle.card_daily.specs.Given.{Given, IsSound, opened_in}
use Rattle.card_daily.specs.Stands.{posted}
use Rattle.card_dayend.proofs.closing.left_of.Goals as goal

-- the cycle that closes on the day
abbrev number_on : Given → ℕ → ℕ
number_on g day = cycle_of (anchor_of g.history) day

last : (g : Given) (day : ℕ) (c : Cycle) → IsSound g → opened_in g ≤ day → day ≤ last_request_day → day_of_month day ≡ (anchor_of g.history).close_day
    → last_cycle (posted g day).cycles ≡ Some c → IsLastAt g day (number_on g day) c
last g day c s o l closes e = last-at g day (number_on g day) c s o l (closes-of g day s o l closes) e

pub due_cycle-due-requires-clause-days : goal.due_cycle-due-requires-clause-days
due_cycle-due-requires-clause-days c = (last c.args.inputs.now c.args.day c.args.cycle.now c.anchor-anchor.ensures.sound c.requires.dated.opened c.requires.dated.last c.requires.closes c.requires.last).days

pub due_cycle-due-requires-clause-number : goal.due_cycle-due-requires-clause-number
due_cycle-due-requires-clause-number c = (last c.args.inputs.now c.args.day c.args.cycle.now c.anchor-anchor.ensures.sound c.requires.dated.opened c.requires.dated.last c.requires.closes c.requires.last).first

pub due_cycle-due-requires-clause-last : goal.due_cycle-due-requires-clause-last
due_cycle-due-requires-clause-last c =
    let is = last c.args.inputs.now c.args.day c.args.cycle.now c.anchor-anchor.ensures.sound c.requires.dated.opened c.requires.dated.last c.requires.closes c.requires.last in
    let due = is.due in
    let by = c.requires.dated.last in
    omega arith

pub past_due-requires-clause-closed : goal.past_due-requires-clause-closed
past_due-requires-clause-closed c =
    let is = last c.args.inputs.now c.args.day c.args.cycle.now c.anchor-anchor.ensures.sound c.requires.dated.opened c.requires.dated.last c.requires.closes c.requires.last in
    let later = due-later (anchor_of c.args.inputs.now.history) c.args.cycle.now.number in
    let days = is.days in
    let by = is.due in
    subst (λ (x : DueCycle). x.closing < c.args.day) (sym c.due_cycle-due.ensures) (omega (arith, later, by, days.closing, days.due))

pub returns-clause-value : goal.returns-clause-value
returns-clause-value c =
    let g = c.args.inputs.now in
    let counted = of-posts g c.posts.result.now c.args.day c.args.tally.now c.posts.ensures.stands c.posts.ensures.history c.requires.tally in
    c.past_due.ensures.value g.shared.holidays c.args.day c.posts.ensures.stands counted
    ∙ left-is g c.args.day c.args.cycle.now c.posts.result.now.corrected c.due_cycle-due.result (list-is g c.posts.result.now c.posts.ensures.stands c.posts.ensures.history) c.due_cycle-due.ensures

pub returns-clause-tally : goal.returns-clause-tally
returns-clause-tally c =
    stays c.args.inputs.now c.posts.result.now c.args.day c.args.day c.args.tally.now c.past_due.new.tally c.posts.ensures.stands c.posts.ensures.history c.past_due.ensures.tally (omega arith) c.requires.tally
