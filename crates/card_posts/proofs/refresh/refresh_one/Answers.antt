use Rattle.std.proofs.Common.{◌≡◌, ◌≤◌, ◌∙◌, sym, true}
use Rattle.std.proofs.lemmas.List.Elements.{All-set}
use Rattle.card_posts.specs.Change.{stands}
use Rattle.card_posts.specs.declared.effect.Effect.{Effect}
use Rattle.card_posts.proofs.Changed.{set-same, stands-same}
use Rattle.card_posts.proofs.refresh.refresh_one.Goals as goal

pub returns-then-stands-clause-effects : goal.returns-then-stands-clause-effects
returns-then-stands-clause-effects c =
    let same : stands c.index-effects-i.result c.args.now.now ≡ true = cc in
    set-same c.args.effects.now c.args.i c.args.now.now c.index-effects-i.result c.requires.known (sym c.index-effects-i.is ∙ stands-same c.index-effects-i.result c.args.now.now same)

pub returns-clause-ordered : goal.returns-clause-ordered
returns-clause-ordered c = record {
  order = c.change.ensures.order;
  small = All-set (λ (e : Effect). e.cents ≤ 999_999_999_999) c.args.effects.now c.args.i c.args.now.now c.change.ensures.small c.requires.ordered.small;
}
