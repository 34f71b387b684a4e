use Rattle.std.proofs.Common.{ℕ, ◌+◌, ◌<◌, ◌≤◌, sym, ap, ◌∙◌, arith, subst}
use Rattle.card_events.specs.Billing.{closing}
use Rattle.card_events.specs.History.{anchor_of}
use Rattle.card_events.specs.Range.{last_reckoned_day}
use Rattle.card_events.specs.declared.anchor.Anchor.{Anchor}
use Rattle.card_fees.specs.DueLaws.{issued_fees}
use Rattle.card_model.specs.declared.due_cycle.DueCycle.{DueCycle}
use Rattle.card_model.specs.Caps.{row_for}
use Rattle.card_model.specs.Cycles.{Cycle}
use Rattle.card_fees.proofs.Days.{due-later, opened-before}
use Rattle.card_daily.proofs.Counting.{list-is, of-posts, stays}
use Rattle.card_daily.proofs.DueFee.{few, late-is}
use Rattle.card_daily.proofs.Following.{upto-closing}
use Rattle.card_daily.proofs.Lasts.{last-is}
use Rattle.card_daily.proofs.Penalized.{closed-before-due}
use Rattle.card_daily.specs.Given.{Given, IsSound, opened_in}
use Rattle.card_daily.proofs.due.late_fee.Goals as goal

late-days : (g : Given) (day : ℕ) → IsSound g → opened_in g ≤ day → 1 ≤ day
late-days g day s l = let o = s.opening.first in omega arith

pub due_cycle-due-requires-clause-days : goal.due_cycle-due-requires-clause-days
due_cycle-due-requires-clause-days c =
    let s = c.anchor-anchor.ensures.sound in
    (last-is c.args.inputs.now c.args.day c.args.cycle.now s (late-days c.args.inputs.now c.args.day s c.requires.dated.opened) c.requires.dated.last c.requires.cycle).days

pub due_cycle-due-requires-clause-number : goal.due_cycle-due-requires-clause-number
due_cycle-due-requires-clause-number c =
    let s = c.anchor-anchor.ensures.sound in
    (last-is c.args.inputs.now c.args.day c.args.cycle.now s (late-days c.args.inputs.now c.args.day s c.requires.dated.opened) c.requires.dated.last c.requires.cycle).first

pub overflow_add-cycle-inside : goal.overflow_add-cycle-inside
overflow_add-cycle-inside c =
    let s = c.anchor-anchor.ensures.sound in
    let g = c.args.inputs.now in
    let is = last-is g c.args.day c.args.cycle.now s (late-days g c.args.day s c.requires.dated.opened) c.requires.dated.last c.requires.cycle in
    let small = few g c.args.day c.args.cycle.now is c.requires.due in
    let same = ap (λ (x : Cycle). x.number) c.cycle.view_is in
    let last = c.requires.dated.last in
    omega arith

pub issued_since-requires : goal.issued_since-requires
issued_since-requires c =
    let s = c.anchor-anchor.ensures.sound in
    let g = c.args.inputs.now in
    let is = last-is g c.args.day c.args.cycle.now s (late-days g c.args.day s c.requires.dated.opened) c.requires.dated.last c.requires.cycle in
    let number = ap (λ (x : Cycle). x.number + 1) c.cycle.view_is ∙ (sym is.present ∙ is.now) in
    subst (λ n. c.args.day ≤ closing (anchor_of g.history) n) (sym number) (upto-closing (anchor_of g.history) c.args.day s.opening c.requires.dated.opened c.requires.dated.last)

pub due_fee-requires-clause-opened : goal.due_fee-requires-clause-opened
due_fee-requires-clause-opened c =
    let s = c.anchor-anchor.ensures.sound in
    let g = c.args.inputs.now in
    let is = last-is g c.args.day c.args.cycle.now s (late-days g c.args.day s c.requires.dated.opened) c.requires.dated.last c.requires.cycle in
    let first = opened-before (anchor_of g.history) c.args.cycle.now.number in
    let later = due-later (anchor_of g.history) c.args.cycle.now.number in
    let on = is.days.due in
    subst (λ (x : DueCycle). c.anchor-anchor.result.opened ≤ x.due) (sym c.due_cycle-due.ensures)
    (subst (λ (a : Anchor). a.opened ≤ c.args.cycle.now.due) (sym c.anchor-anchor.ensures.value) (omega (arith, first, later, on)))

pub due_fee-requires-clause-closed : goal.due_fee-requires-clause-closed
due_fee-requires-clause-closed c =
    let s = c.anchor-anchor.ensures.sound in
    let g = c.args.inputs.now in
    let is = last-is g c.args.day c.args.cycle.now s (late-days g c.args.day s c.requires.dated.opened) c.requires.dated.last c.requires.cycle in
    closed-before-due g c.args.day c.args.cycle.now c.due_cycle-due.result is.days c.due_cycle-due.ensures

pub due_fee-requires-clause-last : goal.due_fee-requires-clause-last
due_fee-requires-clause-last c =
    let day = c.requires.due in
    let last = c.requires.dated.last in
    subst (λ (x : DueCycle). x.due < last_reckoned_day) (sym c.due_cycle-due.ensures) (omega arith)

pub returns-clause-value : goal.returns-clause-value
returns-clause-value c =
    let s = c.anchor-anchor.ensures.sound in
    let g = c.args.inputs.now in
    let is = last-is g c.args.day c.args.cycle.now s (late-days g c.args.day s c.requires.dated.opened) c.requires.dated.last c.requires.cycle in
    let number = ap (λ (x : Cycle). x.number) c.cycle.view_is in
    let issued = c.fees_of-issued.ensures ∙ (ap issued_fees c.issued_since.ensures ∙ ap (λ n. issued_fees (row_for (n + 1) g.issued)) number) in
    let posts = list-is g c.posts.result.now c.posts.ensures.stands c.posts.ensures.history in
    let counted = of-posts g c.posts.result.now c.args.day c.args.tally.now c.posts.ensures.stands c.posts.ensures.history c.requires.tally in
    c.due_fee.ensures.value g.shared.holidays c.args.day c.posts.ensures.stands counted
    ∙ late-is g c.args.day c.args.cycle.now c.fees.result.now _ c.args.fees.now c.anchor-anchor.result c.posts.result.now.corrected c.due_cycle-due.result is c.requires.due
    c.fees.ensures issued c.requires.fees c.anchor-anchor.ensures.value posts c.due_cycle-due.ensures

pub returns-clause-tally : goal.returns-clause-tally
returns-clause-tally c =
    let on = ap (λ (x : DueCycle). x.due) c.due_cycle-due.ensures in
    let next = c.requires.due in
    stays c.args.inputs.now c.posts.result.now c.due_cycle-due.result.due c.args.day c.args.tally.now c.due_fee.new.tally c.posts.ensures.stands c.posts.ensures.history c.due_fee.ensures.tally (omega (arith, on, next)) c.requires.tally
