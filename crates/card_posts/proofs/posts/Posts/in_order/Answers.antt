use Rattle.std.proofs.Common.{arith, sym, subst, ap, ◌∙◌}
use Rattle.card_posts.specs.Order.{in_order}
use Rattle.card_posts.specs.Posted.{AreBounded, Posted, folding_order}
use Rattle.card_posts.proofs.Bounded.{bounded}
use Rattle.card_posts.proofs.Following.{slots-of}
use Rattle.card_posts.proofs.posts.Posts.in_order.Goals as goal

pub returns-clause-order : goal.returns-clause-order
returns-clause-order c =
    c.deref.ensures.value ∙ (c.self.invariant.3.order ∙ (ap in_order (sym (slots-of 1 5 c.self.inside.history.items c.self.inside.effects.items c.self.invariant.3.effects))
    ∙ ap (λ (p : Posted). folding_order p.corrected) c.self.view_is))

pub returns-clause-bounded : goal.returns-clause-bounded
returns-clause-bounded c =
    subst AreBounded (sym (c.deref.ensures.value ∙ c.self.invariant.3.order))
    (bounded c.self.inside.effects.items (omega (arith, c.self.invariant.3.effects, c.self.invariant.0.few)) c.self.invariant.3.small)
