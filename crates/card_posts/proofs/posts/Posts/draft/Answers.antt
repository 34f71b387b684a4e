use Rattle.std.proofs.Common.{refl}
use Rattle.card_posts.proofs.Withdrawn.{drafted}
use Rattle.card_posts.proofs.posts.Posts.draft.Goals as goal

pub returns-clause-draft : goal.returns-clause-draft
returns-clause-draft c =
    drafted c.self.inside.anchor c.args.calendar.now _ c.args.self.now c.add-pushed.new.self _ c.self.inside.history.items c.self.inside.corrections.each _ c.self.inside.effects.items c.deref.result.now
    c.self.inside.order.items c.deref-2.result.now c.self.inside.has_room c.self.view_is c.self.invariant.0 c.self.invariant.3 c.requires.room c.requires.fresh c.requires.target c.requires.stands
    c.add-pushed.ensures.stands c.add-pushed.ensures.history c.add-pushed.ensures.from refl c.deref.ensures.value c.deref-2.ensures.value c.in_ok-kept.ensures.copy
