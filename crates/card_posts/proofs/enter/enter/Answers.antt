use Rattle.std.proofs.Common.{◌∙◌, ap, length}
use Rattle.card_posts.specs.Corrections.{changed_by}
use Rattle.card_posts.specs.Effect.{effects}
use Rattle.card_posts.proofs.OneMore.{effects-length}
use Rattle.card_posts.proofs.Still.{moved}
use Rattle.card_posts.proofs.enter.enter.Goals as goal

pub follow-requires-clause-moved : goal.follow-requires-clause-moved
follow-requires-clause-moved c =
    moved c.args.anchor.now c.args.calendar.now c.args.history.now.items c.deref-2.result.now c.args.kept c.args.effects.now.items c.changed_by-number.result c.args.waiting.now c.requires.stands (c.deref-2.ensures.value ∙ c.append.ensures.history)
    c.requires.kept.names c.requires.earlier (c.changed_by-number.ensures ∙ ap (λ h. changed_by h c.args.kept.post) c.deref.ensures.value) c.requires.waiting

pub returns-clause-beside : goal.returns-clause-beside
returns-clause-beside c = record {
  corrections = c.append.ensures.corrections;
  effects = ap length (c.follow.ensures.effects ∙ ap (λ u. effects c.args.anchor.now c.args.calendar.now u) c.deref-2.ensures.value) ∙ effects-length c.args.anchor.now c.args.calendar.now c.append.new.history.items 1 c.append.new.history.items;
  small = c.follow.ensures.small;
  order = c.follow.ensures.order;
}
