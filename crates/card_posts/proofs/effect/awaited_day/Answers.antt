use Rattle.std.proofs.Common.{◌≡◌, ◌≤◌, true, Some, sym, ap, ◌∙◌}
use Rattle.card_events.specs.History.{at_number}
use Rattle.card_posts.specs.Effect.{awaits}
use Rattle.card_posts.specs.Posted.{target_of}
use Rattle.card_posts.specs.declared.effect.Effect.{Effect}
use Rattle.card_posts.proofs.Targets.{target-effect}
use Rattle.card_posts.proofs.effect.awaited_day.Goals as goal

pub returns-in-Some : goal.returns-in-Some
returns-in-Some c a holidays front =
    let found : at_number c.target_of-target.result c.args.history.now ≡ Some c.in-Some.kept.now = sym c.in-Some.ensures in
    let named : at_number (target_of c.args.post.now) c.args.history.now ≡ Some c.in-Some.kept.now = ap (λ t. at_number t c.args.history.now) (sym c.target_of-target.ensures) ∙ found in
    let yes : awaits c.args.post.now c.in-Some.kept.now.post ≡ true = cc in
    let earlier : c.target_of-target.result ≤ c.args.i = rw c.target_of-target.ensures c.requires.earlier in
    rw (named, yes, ← c.target_of-target.ensures) (ap (λ (e : Effect). e.day) (target-effect a holidays c.args.history.now c.args.effects.now c.target_of-target.result c.args.i c.in-Some.kept.now c.index-effects-target.result earlier c.requires.known front found))
