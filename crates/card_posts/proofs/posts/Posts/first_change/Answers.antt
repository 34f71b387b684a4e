use Rattle.std.proofs.Common.{◌≡◌, sym, ap, subst, ◌∙◌}
use Rattle.card_events.specs.History.{anchor_of, corrected}
use Rattle.card_posts.specs.Effect.{corrected_with, effects}
use Rattle.card_posts.specs.Posted.{Posted, StandsFor}
use Rattle.card_posts.proofs.Following.{effects-back}
use Rattle.card_posts.proofs.posts.Posts.first_change.Goals as goal

pub first_with-requires-clause-effects : goal.first_with-requires-clause-effects
first_with-requires-clause-effects c =
    let stood : corrected_with 1 5 c.self.inside.history.items c.self.inside.effects.items ≡ corrected (anchor_of c.self.inside.history.items) c.args.calendar.now c.self.inside.history.items =
    subst (λ (p : Posted). StandsFor c.args.calendar.now p) (sym c.self.view_is) c.requires.stands in
    c.deref-2.ensures.value ∙ (effects-back c.self.inside.anchor c.args.calendar.now c.self.inside.history.items c.self.inside.effects.items c.self.invariant.3.effects
    (stood ∙ ap (λ a. corrected a c.args.calendar.now c.self.inside.history.items) (sym c.self.invariant.0.anchor))
    ∙ ap (effects c.self.inside.anchor c.args.calendar.now) (sym c.deref.ensures.value))
