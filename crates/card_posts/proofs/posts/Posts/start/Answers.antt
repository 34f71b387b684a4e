use Rattle.std.proofs.Common.{List, arith, [], ◌∷◌, ap, ◌∙◌, refl, subst, sym}
use Rattle.card_events.specs.declared.anchor.Anchor.{Anchor}
use Rattle.card_events.specs.declared.kept.Kept.{Kept}
use Rattle.card_waits.specs.Waits.{AreWaits}
use Rattle.card_keys.specs.Buckets.{IsIndex}
use Rattle.card_posts.proofs.Opening.{first-lists, stands-one}
use Rattle.card_posts.proofs.Unrated.{none-first}
use Rattle.card_posts.proofs.posts.Posts.start.Goals as goal

pub invariant_of-result : goal.invariant_of-result
invariant_of-result c =
    let first = first-lists c.opening-anchor.result _ _ _ _ _ _ c.in_ok-history.ensures c.in_ok-of_one.ensures.each c.in_ok-one-2.ensures (c.in_ok-one.ensures ∙ ap (λ s. s ∷ []) c.slot.ensures.value) c.requires.opens c.requires.close_day refl c.requires.dated c.opening-anchor.ensures (rw c.no_cents.ensures (omega arith)) in
    (first.kept, subst (λ (u : List Kept). IsIndex u c.in_ok-rebuilt.field-0) c.deref.ensures.value c.in_ok-rebuilt.ensures.index, subst (λ (u : List Kept). AreWaits u c.in_ok-waits_of.field-0) (sym c.in_ok-history.ensures) (c.in_ok-waits_of.ensures _ refl), first.beside, λ e. absurd (cc), none-first c.in_ok-history.history.items _ c.in_ok-history.ensures, λ e. c.in_ok-of_one.ensures.spare)

pub returns-clause-stands : goal.returns-clause-stands
returns-clause-stands c holidays = stands-one _ _ _ _ c.in_ok-history.ensures c.in_ok-one-2.ensures c.requires.opens (ap (λ (a : Anchor). a.opened) c.opening-anchor.ensures) c.no_cents.ensures holidays
