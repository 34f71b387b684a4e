use Rattle.std.proofs.Common.{◌≡◌, ℕ, ◌+◌, ◌<◌, get_or, sym, ap, subst, ◌∙◌, refl, arith}
use Rattle.card_events.specs.declared.kept.Kept.{Kept}
use Rattle.card_posts.specs.Corrections.{correction_of}
use Rattle.card_posts.specs.Effect.{IsAmendDated, effect_of}
use Rattle.card_posts.specs.Posted.{target_of}
use Rattle.card_posts.specs.Stored.{IsTimely}
use Rattle.card_posts.specs.declared.correction.Correction.{Correction}
use Rattle.card_posts.specs.declared.effect.Effect.{Effect}
use Rattle.card_posts.proofs.Noted.{corrections-at, corrections-length}
use Rattle.card_posts.proofs.Targets.{effects-at}
use Rattle.card_posts.proofs.DayLemmas.{amend-dated, names-at, timely-at}
use Rattle.card_posts.proofs.effect.effect_now.Goals as goal

pub at-correction-requires : goal.at-correction-requires
at-correction-requires c = let l = corrections-length c.args.history.now 1 c.args.history.now in rw (c.requires.corrections, l) c.requires.known

pub day_now-requires-clause-timely : goal.day_now-requires-clause-timely
day_now-requires-clause-timely c = subst (λ (k : Kept). IsTimely c.args.anchor.now.opened k) (sym c.index-history-i.is) (timely-at _ c.args.i c.args.history.now c.index-history-i.result c.requires.kept.timely c.requires.known)

pub day_now-requires-clause-correction : goal.day_now-requires-clause-correction
day_now-requires-clause-correction c =
    let number : 1 + c.args.i ≡ c.args.i + 1 = omega arith in
    c.at-correction.ensures c.at-correction.result ∙ (ap (λ u. get_or u c.args.i c.at-correction.result) c.requires.corrections
    ∙ (corrections-at c.args.history.now 1 c.args.i c.args.history.now c.at-correction.result c.requires.known ∙ ap (correction_of c.args.history.now) number))

pub day_now-requires-clause-amend : goal.day_now-requires-clause-amend
day_now-requires-clause-amend c =
    let is : c.at-correction.result ≡ correction_of c.args.history.now (1 + c.args.i) = c.at-correction.ensures c.at-correction.result ∙ (ap (λ u. get_or u c.args.i c.at-correction.result) c.requires.corrections
    ∙ corrections-at c.args.history.now 1 c.args.i c.args.history.now c.at-correction.result c.requires.known) in
    subst (λ (o : Correction). IsAmendDated c.args.anchor.now.opened o.amend) (sym is) (amend-dated c.args.anchor.now.opened (1 + c.args.i) c.args.history.now c.requires.kept.timely)

pub day_now-requires-clause-earlier : goal.day_now-requires-clause-earlier
day_now-requires-clause-earlier c =
    let below = subst (λ (k : Kept). target_of k.post < 1 + c.args.i) (sym c.index-history-i.is) (names-at 1 c.args.i c.args.history.now c.index-history-i.result c.requires.kept.names c.requires.known) in
    omega (arith, below)

abbrev make : ℕ → ℕ → Effect
make a b = record { day = a; cents = b }

same-parts : (a b c d : ℕ) → a ≡ c → b ≡ d → make a b ≡ make c d
same-parts a b c d e f = rw (e, f) refl

pub returns : goal.returns
returns c d =
    let number : 1 + c.args.i ≡ c.args.i + 1 = omega arith in
    let said : c.at-correction.result ≡ correction_of c.args.history.now (c.args.i + 1) =
    c.at-correction.ensures c.at-correction.result ∙ (ap (λ u. get_or u c.args.i c.at-correction.result) c.requires.corrections
    ∙ (corrections-at c.args.history.now 1 c.args.i c.args.history.now c.at-correction.result c.requires.known ∙ ap (correction_of c.args.history.now) number)) in
    let there = effects-at c.args.anchor.now c.args.calendar.now c.args.history.now 1 c.args.i c.args.history.now d c.index-history-i.result c.requires.known in
    same-parts _ _ _ _ c.day_now.ensures (c.cents_now.ensures c.args.history.now (c.args.i + 1) said)
    ∙ (ap (λ n. effect_of c.args.anchor.now c.args.calendar.now c.args.history.now n c.index-history-i.result) (sym number)
    ∙ (ap (effect_of c.args.anchor.now c.args.calendar.now c.args.history.now (1 + c.args.i)) c.index-history-i.is ∙ sym there))
