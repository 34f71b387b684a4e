use Rattle.std.proofs.Common.{◌+◌, ◌≤◌, sym, ap, ◌∙◌, arith, subst}
use Rattle.card_events.specs.declared.anchor.Anchor.{Anchor}
use Rattle.card_model.specs.CycleDays.{IsOpening}
use Rattle.card_events.specs.Billing.{closing, cycle_of}
use Rattle.card_daily.proofs.Following.{cycle-few, second-is, second-most, some-of, value-of}
use Rattle.card_daily.proofs.posts.following_closing.Goals as goal

pub overflow_add-cycle_of : goal.overflow_add-cycle_of
overflow_add-cycle_of c =
    let few = cycle-few c.args.anchor.now c.args.day c.requires.anchor c.requires.opened c.requires.last in
    let last = c.requires.last in
    omega (arith, c.cycle_of.ensures.value, few, last)

pub unwrap-requires : goal.unwrap-requires
unwrap-requires c =
    let most = second-most c.args.anchor.now c.args.day c.requires.anchor c.requires.opened c.requires.last in
    let same = ap (λ k. closing c.args.anchor.now (k + 1)) c.cycle_of.ensures.value in
    some-of c.closing.result _ _ c.closing.ensures (omega arith, omega (arith, most, same))

pub returns : goal.returns
returns c a e =
    let h = subst IsOpening (sym e) c.requires.anchor in
    let low = subst (λ (x : Anchor). x.opened ≤ c.args.day) (sym e) c.requires.opened in
    value-of c.closing.result _ _ c.unwrap.result c.closing.ensures c.unwrap.ensures
    ∙ (ap (λ k. closing c.args.anchor.now (k + 1)) c.cycle_of.ensures.value
    ∙ (ap (λ x. closing x (cycle_of x c.args.day + 1)) (sym e) ∙ second-is a c.args.day h low c.requires.last))
