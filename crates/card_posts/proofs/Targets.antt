-- What counts for the post that another one waits for.
use Rattle.std.proofs.Common.{◌≡◌, ℕ, zero, suc, ◌+◌, ◌-◌, ◌<◌, ◌≤◌, List, [], ◌∷◌, take, length, get_or, refl, sym, ap, ◌∙◌, subst, arith, Some, None}
use Rattle.std.proofs.lemmas.Option.{get_or_from_slice_get}
use Rattle.card_events.specs.declared.anchor.Anchor.{Anchor}
use Rattle.card_events.specs.History.{at_number}
use Rattle.card_events.specs.declared.kept.Kept.{Kept}
use Rattle.card_posts.specs.Effect.{effect_of, effects, effects_from}
use Rattle.card_posts.specs.declared.effect.Effect.{Effect}

pub effects-at : (a : Anchor) (holidays : List ℕ) (h : List Kept) (n i : ℕ) (ks : List Kept) (d : Effect) (k : Kept) → i < length ks → get_or (effects_from a holidays h n ks) i d ≡ effect_of a holidays h (n + i) (get_or ks i k)
unfolding effects_from
effects-at a holidays h n i [] d k l = absurd (omega (arith, l))
effects-at a holidays h n zero (q ∷ ks) d k l = let e : n ≡ n + 0 = omega arith in ap (λ m. effect_of a holidays h m q) e
effects-at a holidays h n (suc i) (q ∷ ks) d k l = let e : suc n + i ≡ n + suc i = omega arith in subst (λ m. get_or (effects_from a holidays h (suc n) ks) i d ≡ effect_of a holidays h m (get_or ks i k)) e (effects-at a holidays h (suc n) i ks d k (omega (arith, l)))

pub in_take : (i k : ℕ) (xs : List Effect) (d : Effect) → k < i → get_or (take i xs) k d ≡ get_or xs k d
in_take zero k xs d l = absurd (omega (arith, l))
in_take (suc i) k [] d l = refl
in_take (suc i) zero (x ∷ xs) d l = refl
in_take (suc i) (suc k) (x ∷ xs) d l = in_take i k xs d (omega (arith, l))

front-at : (i k : ℕ) (xs ys : List Effect) (d : Effect) → take i xs ≡ take i ys → k < i → get_or xs k d ≡ get_or ys k d
front-at i k xs ys d e l = sym (in_take i k xs d l) ∙ (ap (λ u. get_or u k d) e ∙ in_take i k ys d l)

-- what is kept for an earlier post is what the history says of it
pub target-effect : (a : Anchor) (holidays : List ℕ) (h : List Kept) (es : List Effect) (t i : ℕ) (k : Kept) (d : Effect) → t ≤ i → i ≤ length h → take i es ≡ take i (effects a holidays h) → at_number t h ≡ Some k → get_or es (t - 1) d ≡ effect_of a holidays h t k
target-effect a holidays h es zero i k d l m e f = let no : None ≡ Some k = f in absurd (cc)
target-effect a holidays h es (suc t) i k d l m e f =
    let place : suc t - 1 ≡ t = omega arith in
    let number : 1 + t ≡ suc t = omega arith in
    let same : get_or h t k ≡ k = get_or_from_slice_get h t k k f in
    rw place (front-at i t es (effects a holidays h) d e (omega (arith, l)) ∙ (effects-at a holidays h 1 t h d k (omega (arith, l, m)) ∙ (ap (effect_of a holidays h (1 + t)) same ∙ ap (λ n. effect_of a holidays h n k) number)))
