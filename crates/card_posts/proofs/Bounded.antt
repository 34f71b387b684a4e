-- The bounds of the slots that are kept.
use Rattle.std.proofs.Common.{◌≡◌, ℕ, suc, ◌≤◌, ◌≤ℤ◌, pos, Bool, true, false, cond, List, [], ◌∷◌, length, refl, ap, ◌∙◌, arith}
use Rattle.std.proofs.lemmas.Int.{ints}
use Rattle.std.specs.List.{All}
use Rattle.std.proofs.lemmas.List.Elements.{All-nil, All-cons, All-head, All-tail}
use Rattle.card_events.specs.Limits.{post_limit}
use Rattle.card_events.specs.declared.kept.Slot.{Slot}
use Rattle.card_posts.specs.Effect.{AreSmall, slot_by, slots_from}
use Rattle.card_posts.specs.Order.{before, in_order, placed}
use Rattle.card_posts.specs.Posted.{AreBounded}
use Rattle.card_posts.specs.declared.effect.Effect.{Effect}
use Rattle.card_posts.proofs.SlotLists.{slots-length}

placed-length : (s : Slot) (xs : List Slot) → length (placed s xs) ≡ suc (length xs)
unfolding placed
placed-length s [] = refl
placed-length s (y ∷ ys) = at (before y s) (placed-length s ys)
  where
    at : (b : Bool) → length (placed s ys) ≡ suc (length ys) → length (cond b (y ∷ placed s ys) (s ∷ y ∷ ys)) ≡ suc (suc (length ys))
    at true e = ap suc e
    at false e = refl

in_order-length : (xs : List Slot) → length (in_order xs) ≡ length xs
unfolding in_order
in_order-length [] = refl
in_order-length (x ∷ xs) = placed-length x (in_order xs) ∙ ap suc (in_order-length xs)

placed-all : (P : Slot → Type 0) (s : Slot) (xs : List Slot) → P s → All P xs → All P (placed s xs)
unfolding placed
placed-all P s [] p h = All-cons P s [] p (All-nil P)
placed-all P s (y ∷ ys) p h = at (before y s) (placed-all P s ys p (All-tail P y ys h))
  where
    at : (b : Bool) → All P (placed s ys) → All P (cond b (y ∷ placed s ys) (s ∷ y ∷ ys))
    at true r = All-cons P y (placed s ys) (All-head P y ys h) r
    at false r = All-cons P s (y ∷ ys) p h

in_order-all : (P : Slot → Type 0) (xs : List Slot) → All P xs → All P (in_order xs)
unfolding in_order
in_order-all P [] h = All-nil P
in_order-all P (x ∷ xs) h = placed-all P x (in_order xs) (All-head P x xs h) (in_order-all P xs (All-tail P x xs h))

slots-all : (P : Slot → Type 0) (n : ℕ) (es : List Effect) → ((n : ℕ) (e : Effect) → e.cents ≤ 999_999_999_999 → P (slot_by n e)) → AreSmall es → All P (slots_from n es)
unfolding slots_from
slots-all P n [] each h = All-nil P
slots-all P n (e ∷ es) each h =
    All-cons P (slot_by n e) (slots_from (suc n) es) (each n e (All-head (λ (x : Effect). x.cents ≤ 999_999_999_999) e es h))
    (slots-all P (suc n) es each (All-tail (λ (x : Effect). x.cents ≤ 999_999_999_999) e es h))

pub bounded : (es : List Effect) → length es ≤ post_limit → AreSmall es → AreBounded (in_order (slots_from 1 es))
bounded es few small = record {
  count = let long = in_order-length (slots_from 1 es) ∙ slots-length 1 es in omega (arith, long, few);
  low = in_order-all (λ (s : Slot). pos 0 ≤ℤ s.cents) (slots_from 1 es) (slots-all (λ (s : Slot). pos 0 ≤ℤ s.cents) 1 es (λ n e l. omega (arith, ints)) small);
  high = in_order-all (λ (s : Slot). s.cents ≤ℤ pos 999_999_999_999) (slots_from 1 es) (slots-all (λ (s : Slot). s.cents ≤ℤ pos 999_999_999_999) 1 es (λ n e l. omega (arith, ints, l)) small);
}
