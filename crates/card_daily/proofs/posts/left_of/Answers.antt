use Rattle.std.proofs.Common.{◌≡◌, ℕ, ◌+◌, ◌-◌, ◌<◌, ◌≤◌, sym, ap, ◌∙◌, arith, subst, refl, List}
use Rattle.card_events.specs.Billing.{closing}
use Rattle.card_events.specs.Range.{last_request_day}
use Rattle.card_fees.proofs.PastPosts.{past-posts}
use Rattle.card_model.specs.Payments.{due_cycle_of, left_before}
use Rattle.card_model.specs.declared.due_cycle.DueCycle.{DueCycle}
use Rattle.card_events.specs.History.{CorrectedPost, anchor_of}
use Rattle.card_model.specs.Cycles.{Cycle}
use Rattle.card_daily.proofs.Counting.{list-is, of-posts, stays}
use Rattle.card_daily.proofs.Following.{begun-by, due-most}
use Rattle.card_daily.proofs.Lasts.{IsLast, last-is}
use Rattle.card_daily.specs.Given.{Given, IsSound, opened_in, posts_in, seen_in}
use Rattle.card_daily.proofs.posts.left_of.Goals as goal

from-one : (g : Given) (day : ℕ) → IsSound g → opened_in g ≤ day → 1 ≤ day
from-one g day s l = let o = s.opening.first in omega arith

-- the cycle closed before the day
closed : (g : Given) (day : ℕ) (c : Cycle) → IsSound g → opened_in g ≤ day → day ≤ last_request_day → IsLast g day c → closing (anchor_of g.history) c.number < day
closed g day c s o l is =
    let begun = begun-by (anchor_of g.history) day s.opening o l in
    let same : c.number + 1 - 1 ≡ c.number = omega arith in
    subst (λ k. closing (anchor_of g.history) k < day) (ap (λ n. n - 1) (sym is.now ∙ is.present) ∙ same) begun

pub due_cycle-due-requires-clause-days : goal.due_cycle-due-requires-clause-days
due_cycle-due-requires-clause-days c =
    let s = c.anchor-anchor.ensures.sound in
    (last-is c.args.inputs.now c.args.day c.args.cycle.now s (from-one c.args.inputs.now c.args.day s c.requires.dated.opened) c.requires.dated.last c.requires.cycle).days

pub due_cycle-due-requires-clause-number : goal.due_cycle-due-requires-clause-number
due_cycle-due-requires-clause-number c =
    let s = c.anchor-anchor.ensures.sound in
    (last-is c.args.inputs.now c.args.day c.args.cycle.now s (from-one c.args.inputs.now c.args.day s c.requires.dated.opened) c.requires.dated.last c.requires.cycle).first

pub due_cycle-due-requires-clause-last : goal.due_cycle-due-requires-clause-last
due_cycle-due-requires-clause-last c =
    let s = c.anchor-anchor.ensures.sound in
    let g = c.args.inputs.now in
    let is = last-is g c.args.day c.args.cycle.now s (from-one g c.args.day s c.requires.dated.opened) c.requires.dated.last c.requires.cycle in
    let before = closed g c.args.day c.args.cycle.now s c.requires.dated.opened c.requires.dated.last is in
    let most = due-most (anchor_of g.history) c.args.cycle.now.number in
    let on = is.days.due in
    let last = c.requires.dated.last in
    omega (arith, before, most, on, last)

pub minimum_left-requires : goal.minimum_left-requires
minimum_left-requires c =
    let s = c.anchor-anchor.ensures.sound in
    let g = c.args.inputs.now in
    let is = last-is g c.args.day c.args.cycle.now s (from-one g c.args.day s c.requires.dated.opened) c.requires.dated.last c.requires.cycle in
    let before = closed g c.args.day c.args.cycle.now s c.requires.dated.opened c.requires.dated.last is in
    let at = is.days.closing in
    record { closed = subst (λ (x : DueCycle). x.closing < c.args.day) (sym c.due_cycle-due.ensures) (omega (arith, before, at)) }

alike : (ps qs : List CorrectedPost) (x y : DueCycle) (day m n : ℕ) → ps ≡ qs → x ≡ y → m ≡ n → left_before ps day m x ≡ left_before qs day n y
alike ps qs x y day m n f h k = rw (f, h, k) refl

pub returns-clause-value : goal.returns-clause-value
returns-clause-value c p on number =
    let s = c.anchor-anchor.ensures.sound in
    let g = c.args.inputs.now in
    let cycle = c.args.cycle.now in
    let all = posts_in g in
    let is = last-is g c.args.day cycle s (from-one g c.args.day s c.requires.dated.opened) c.requires.dated.last c.requires.cycle in
    let posts = list-is g c.posts.result.now c.posts.ensures.stands c.posts.ensures.history in
    let counted = of-posts g c.posts.result.now c.args.day c.args.tally.now c.posts.ensures.stands c.posts.ensures.history c.requires.tally in
    c.minimum_left.ensures.value g.shared.holidays c.args.day c.posts.ensures.stands counted
    ∙ (alike c.posts.result.now.corrected all c.due_cycle-due.result (due_cycle_of (seen_in g c.args.day).issued cycle) c.args.day c.args.number p.number posts c.due_cycle-due.ensures (sym number)
    ∙ sym (past-posts.before c.args.day p.number all (due_cycle_of (seen_in g c.args.day).issued cycle)))

pub returns-clause-tally : goal.returns-clause-tally
returns-clause-tally c =
    stays c.args.inputs.now c.posts.result.now c.args.day c.args.day c.args.tally.now c.minimum_left.new.tally c.posts.ensures.stands c.posts.ensures.history c.minimum_left.ensures.tally (omega arith) c.requires.tally
