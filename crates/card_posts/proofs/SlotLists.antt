-- The slots of what is kept by number.
use Rattle.std.proofs.Common.{◌≡◌, ℕ, zero, suc, ◌+◌, ◌<◌, List, [], ◌∷◌, ◌++◌, take, drop, length, get_or, set, refl, sym, ap, ◌∙◌, subst, arith, add-one, pos}
use Rattle.card_events.specs.declared.kept.Slot.{Slot}
use Rattle.card_posts.specs.Effect.{slot_by, slots_from}
use Rattle.card_posts.specs.Order.{HaveNumbers, IsPlace, in_order, placed, without}
use Rattle.card_posts.specs.declared.effect.Effect.{Effect}
use Rattle.card_posts.proofs.Ordered.{remove-placed, place-inside, without-order, set-order, in_order-more}

pub no_slot : Slot
no_slot = record { day = 0; number = 0; cents = pos 0 }

pub slots-length : (n : ℕ) (es : List Effect) → length (slots_from n es) ≡ length es
unfolding slots_from
slots-length n [] = refl
slots-length n (e ∷ es) = ap suc (slots-length (suc n) es)

pub slots-numbered : (n : ℕ) (es : List Effect) → HaveNumbers n (slots_from n es)
unfolding slots_from HaveNumbers
slots-numbered n [] = tt
slots-numbered n (e ∷ es) = (refl, slots-numbered (suc n) es)

pub slots-at : (n i : ℕ) (es : List Effect) (d : Slot) (e : Effect) → i < length es → get_or (slots_from n es) i d ≡ slot_by (n + i) (get_or es i e)
unfolding slots_from
slots-at n i [] d e l = absurd (omega (arith, l))
slots-at n zero (x ∷ es) d e l = let k : n ≡ n + 0 = omega arith in ap (λ m. slot_by m x) k
slots-at n (suc i) (x ∷ es) d e l = let k : suc n + i ≡ n + suc i = omega arith in subst (λ m. get_or (slots_from (suc n) es) i d ≡ slot_by m (get_or es i e)) k (slots-at (suc n) i es d e (omega (arith, l)))

pub slots-set : (n i : ℕ) (es : List Effect) (e : Effect) → i < length es → slots_from n (set es i e) ≡ set (slots_from n es) i (slot_by (n + i) e)
unfolding slots_from
slots-set n i [] e l = absurd (omega (arith, l))
slots-set n zero (x ∷ es) e l = let k : n ≡ n + 0 = omega arith in ap (λ m. slot_by m e ∷ slots_from (suc n) es) k
slots-set n (suc i) (x ∷ es) e l = let k : suc n + i ≡ n + suc i = omega arith in ap (λ u. slot_by n x ∷ u) (slots-set (suc n) i es e (omega (arith, l)) ∙ ap (λ m. set (slots_from (suc n) es) i (slot_by m e)) k)

pub slots-append : (n : ℕ) (es : List Effect) (e : Effect) → slots_from n (es ++ e ∷ []) ≡ slots_from n es ++ slot_by (n + length es) e ∷ []
unfolding slots_from
slots-append n [] e = let k : n ≡ n + 0 = omega arith in ap (λ m. slot_by m e ∷ []) k
slots-append n (x ∷ es) e = let k : suc n + length es ≡ n + suc (length es) = omega arith in ap (λ u. slot_by n x ∷ u) (slots-append (suc n) es e ∙ ap (λ m. slots_from (suc n) es ++ slot_by m e ∷ []) k)

-- what stands where the slot of a post is taken out
pub taken-out : (order : List Slot) (es : List Effect) (i : ℕ) (s : Slot) (e : Effect) (p : ℕ) → i < length es → order ≡ in_order (slots_from 1 es) → s ≡ slot_by (i + 1) e → e ≡ get_or es i e → IsPlace s order p
    → (p < length order) × (take p order ++ drop (p + 1) order ≡ in_order (without i (slots_from 1 es)))
taken-out order es i s e p l is f g h =
    let long : length (slots_from 1 es) ≡ length es = slots-length 1 es in
    let k : i + 1 ≡ 1 + i = omega arith in
    let this : s ≡ get_or (slots_from 1 es) i no_slot = f ∙ (ap (λ m. slot_by m e) k ∙ (ap (slot_by (1 + i)) g ∙ sym (slots-at 1 i es no_slot e l))) in
    let whole : order ≡ placed s (in_order (without i (slots_from 1 es))) = is ∙ (without-order (slots_from 1 es) i no_slot (slots-numbered 1 es) (omega (arith, long, l)) ∙ ap (λ u. placed u (in_order (without i (slots_from 1 es)))) (sym this)) in
    let at : IsPlace s (placed s (in_order (without i (slots_from 1 es)))) p = subst (λ u. IsPlace s u p) whole h in
    (rw whole (place-inside s (in_order (without i (slots_from 1 es))) p at), rw (add-one, whole) (remove-placed s (in_order (without i (slots_from 1 es))) p at))

-- and where another with its number is put in
pub put-in : (es : List Effect) (i : ℕ) (e : Effect) → i < length es → placed (slot_by (i + 1) e) (in_order (without i (slots_from 1 es))) ≡ in_order (slots_from 1 (set es i e))
put-in es i e l =
    let long : length (slots_from 1 es) ≡ length es = slots-length 1 es in
    let k : 1 + i ≡ i + 1 = omega arith in
    let there : slots_from 1 (set es i e) ≡ set (slots_from 1 es) i (slot_by (i + 1) e) = slots-set 1 i es e l ∙ ap (λ m. set (slots_from 1 es) i (slot_by m e)) k in
    sym (ap in_order there ∙ set-order (slots_from 1 es) i (slot_by (i + 1) e) (slots-numbered 1 es) (omega (arith, long, l)) refl)

-- one more slot
pub put-last : (es : List Effect) (e : Effect) → placed (slot_by (length es + 1) e) (in_order (slots_from 1 es)) ≡ in_order (slots_from 1 (es ++ e ∷ []))
put-last es e =
    let long : length (slots_from 1 es) ≡ length es = slots-length 1 es in
    let k : 1 + length es ≡ length es + 1 = omega arith in
    let there : slots_from 1 (es ++ e ∷ []) ≡ slots_from 1 es ++ slot_by (length es + 1) e ∷ [] = slots-append 1 es e ∙ ap (λ m. slots_from 1 es ++ slot_by m e ∷ []) k in
    sym (ap in_order there ∙ in_order-more (slots_from 1 es) (slot_by (length es + 1) e) (slots-numbered 1 es) (omega (arith, long)))
