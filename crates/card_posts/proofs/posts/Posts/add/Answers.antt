use Rattle.std.proofs.Common.{◌≡◌, ◌+◌, List, [], ◌∷◌, ◌++◌, drop, length, refl, sym, ap, subst, ◌∙◌, arith}
use Rattle.card_events.specs.History.{anchor_of, corrected}
use Rattle.card_events.specs.declared.kept.Kept.{Kept}
use Rattle.card_waits.specs.Waits.{AreWaits}
use Rattle.card_posts.specs.Effect.{corrected_with}
use Rattle.card_posts.specs.Posted.{Posted, SetNoRates, StandsFor}
use Rattle.card_posts.specs.Stored.{ends_correcting}
use Rattle.card_keys.specs.Buckets.{Indexed, IsIndex}
use Rattle.card_posts.proofs.Following.{corrected-is, effects-back}
use Rattle.card_posts.proofs.Waiting.{awaited-target}
use Rattle.card_posts.proofs.Unrated.{none-with}
use Rattle.card_posts.proofs.Withdrawn.{ends-more}
use Rattle.card_posts.proofs.posts.Posts.add.Goals as goal

pub enter-from-requires-clause-stands : goal.enter-from-requires-clause-stands
enter-from-requires-clause-stands c =
    let stood : corrected_with 1 5 c.self.inside.history.items c.self.inside.effects.items ≡ corrected (anchor_of c.self.inside.history.items) c.args.calendar.now c.self.inside.history.items =
    subst (λ (p : Posted). StandsFor c.args.calendar.now p) (sym c.self.view_is) c.requires.stands in
    effects-back c.self.inside.anchor c.args.calendar.now c.self.inside.history.items c.self.inside.effects.items c.self.invariant.3.effects
    (stood ∙ ap (λ a. corrected a c.args.calendar.now c.self.inside.history.items) (sym c.self.invariant.0.anchor))

pub enter-requires-clause-few : goal.enter-requires-clause-few
enter-requires-clause-few c =
    let same = ap (λ (p : Posted). length p.history) c.self.view_is in
    omega (arith, c.self.invariant.2.long, same, c.requires.few)

pub enter-requires-clause-earlier : goal.enter-requires-clause-earlier
enter-requires-clause-earlier c =
    let same = ap (λ (p : Posted). length p.history) c.self.view_is in
    let low = awaited-target c.args.post.now (length c.args.self.now.history) c.requires.target in
    omega (arith, c.self.invariant.2.long, same, low)

pub returns-clause-stands : goal.returns-clause-stands
returns-clause-stands c =
    ap (corrected_with 1 5 c.enter-from.new.history.items) c.enter-from.ensures.stands
    ∙ (corrected-is c.self.inside.anchor c.args.calendar.now c.enter-from.new.history.items
    ∙ ap (λ a. corrected a c.args.calendar.now c.enter-from.new.history.items) c.enter-from.ensures.kept.anchor)

pub invariant_of-self : goal.invariant_of-self
invariant_of-self c =
    let history = c.self.inside.history.items in
    let all = c.enter-from.new.history.items in
    let long : c.len-number.result + 1 ≡ length history + 1 = ap (λ n. n + 1) (c.len-number.ensures.value ∙ sym (ap (λ (p : Posted). length p.history) c.self.view_is)) in
    let rated = subst (λ n. SetNoRates (drop n all)) (sym c.rated_with-self-inside.ensures) (none-with c.self.inside.rated (c.len-number.result + 1) history all _ c.enter-from.ensures.history long c.self.invariant.5) in (
      c.enter-from.ensures.kept,
      index-with c.self.inside.history.items c.deref.result.now c.enter-from.new.history.items _ c.enter_key.new.index c.deref.ensures.value c.enter-from.ensures.history (c.enter_key.ensures.index _ refl),
      subst (λ h. AreWaits h c.enter.new.self) (sym c.enter-from.ensures.history) (c.enter.ensures c.self.inside.history.items _ refl c.self.invariant.2),
      c.enter-from.ensures.beside,
      λ e. absurd (cc),
      rated,
      λ e. c.enter-from.ensures.spare (sym (ends-more history _) ∙ (ap ends_correcting (sym c.enter-from.ensures.history) ∙ e)),
    )
  where
    index-with : (h d g : List Kept) (k : Kept) (i : Indexed) → d ≡ h → g ≡ h ++ k ∷ [] → IsIndex (d ++ k ∷ []) i → IsIndex g i
    index-with h d g k i same is index = subst (λ u. IsIndex u i) (ap (λ u. u ++ k ∷ []) same ∙ sym is) index
