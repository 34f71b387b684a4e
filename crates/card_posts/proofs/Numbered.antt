-- The slot of the post with a number.
use Rattle.std.proofs.Common.{◌≡◌, ℕ, zero, suc, ◌+◌, ◌<◌, Bool, true, false, cond, eqb, List, [], ◌∷◌, length, refl, ap, ◌∙◌, subst, arith, Some, None}
use Rattle.std.specs.Prelude.{option_map, slice_get}
use Rattle.std.specs.List.{find}
use Rattle.std.proofs.lemmas.Bool.{ne_eqb}
use Rattle.card_events.specs.History.{CorrectedPost, next_segment, slot_of}
use Rattle.card_events.specs.declared.kept.Kept.{Kept}
use Rattle.card_posts.specs.Effect.{corrected_by, corrected_with, slot_by}
use Rattle.card_posts.specs.Posted.{slot_with}
use Rattle.card_posts.specs.declared.effect.Effect.{Effect}

first : (number : ℕ) (p : CorrectedPost) (ps : List CorrectedPost) → p.number ≡ number → slot_with number (p ∷ ps) ≡ Some (slot_of p)
first number p ps e = by (eqb p.number number) refl
  where
    by : (t : Bool) → eqb p.number number ≡ t → option_map slot_of (cond t (Some p) (find (λ (q : CorrectedPost). eqb q.number number) ps)) ≡ Some (slot_of p)
    by true f = refl
    by false f = absurd (grind (arith, e, f))

later : (number : ℕ) (p : CorrectedPost) (ps : List CorrectedPost) → (p.number ≡ number → ⊥) → slot_with number (p ∷ ps) ≡ slot_with number ps
later number p ps e = let other : eqb p.number number ≡ false = ne_eqb p.number number e in rw other refl

-- none below the first number
pub slot-below : (number n segment : ℕ) (ks : List Kept) (es : List Effect) → number < n → slot_with number (corrected_with n segment ks es) ≡ None
unfolding corrected_with
slot-below number n segment [] es l = refl
slot-below number n segment (k ∷ ks) [] l = refl
slot-below number n segment (k ∷ ks) (e ∷ es) l =
    later number (corrected_by n segment k e) (corrected_with (suc n) (next_segment segment k.post) ks es) (λ f. omega (arith, l, f))
    ∙ slot-below number (suc n) (next_segment segment k.post) ks es (omega (arith, l))

-- and from there on what is kept at its place
pub slot-at : (i n segment : ℕ) (ks : List Kept) (es : List Effect) → length es ≡ length ks → slot_with (n + i) (corrected_with n segment ks es) ≡ option_map (slot_by (n + i)) (slice_get es i)
unfolding corrected_with
slot-at i n segment [] [] l = refl
slot-at i n segment [] (e ∷ es) l = absurd (omega (arith, l))
slot-at i n segment (k ∷ ks) [] l = absurd (omega (arith, l))
slot-at zero n segment (k ∷ ks) (e ∷ es) l =
    let here : n ≡ n + 0 = omega arith in
    first (n + 0) (corrected_by n segment k e) (corrected_with (suc n) (next_segment segment k.post) ks es) here ∙ ap (λ m. Some (slot_by m e)) here
slot-at (suc i) n segment (k ∷ ks) (e ∷ es) l =
    let next : suc n + i ≡ n + suc i = omega arith in
    later (n + suc i) (corrected_by n segment k e) (corrected_with (suc n) (next_segment segment k.post) ks es) (λ f. omega (arith, f))
    ∙ subst (λ m. slot_with m (corrected_with (suc n) (next_segment segment k.post) ks es) ≡ option_map (slot_by m) (slice_get es i)) next
    (slot-at i (suc n) (next_segment segment k.post) ks es (omega (arith, l)))
