-- Holidays that agree up to a day give the same business days and credit days up to it.
use Rattle.std.proofs.Common.{◌≡◌, ℕ, zero, suc, ◌+◌, ◌-◌, ◌<◌, ◌≤◌, Bool, false, cond, not, ◌&&◌, ◌||◌, nat_lt, nat_eq, List, Option, Some, None, refl, ap, ◌∙◌, arith}
use Rattle.std.proofs.lemmas.Bool.Decides.{nat_tests}
use Rattle.card_events.specs.declared.anchor.Anchor.{Anchor}
use Rattle.card_events.specs.Business.{AgreeUpTo, is_holiday, is_weekday, is_business, is_due, due_before, mail_day, credit_day, with_holiday, cutoff}
use Rattle.card_events.proofs.Holidays.{with_holiday-is}

pub is_business-agrees : (last : ℕ) (xs ys : List ℕ) → AgreeUpTo last xs ys → (day : ℕ) → day ≤ last → is_business xs day ≡ is_business ys day
unfolding is_business
is_business-agrees last xs ys h day l = ap (λ b. is_weekday day && not b) (h day l)

pub due_before-agrees : (a : Anchor) (last : ℕ) (xs ys : List ℕ) → AgreeUpTo last xs ys → (more day : ℕ) → day ≤ last → due_before a xs more day ≡ due_before a ys more day
unfolding due_before
due_before-agrees a last xs ys h zero day l = refl
due_before-agrees a last xs ys h (suc more) day l =
    ap (λ b. cond b None (cond (is_due a day) (Some day) (due_before a xs more (day - 1)))) (is_business-agrees last xs ys h day l)
    ∙ ap (λ r. cond (is_business ys day) None (cond (is_due a day) (Some day) r)) (due_before-agrees a last xs ys h more (day - 1) (omega arith))

pub mail_day-agrees : (a : Anchor) (receipt : ℕ) (xs ys : List ℕ) → AgreeUpTo receipt xs ys → mail_day a xs receipt ≡ mail_day a ys receipt
unfolding mail_day
mail_day-agrees a receipt xs ys h =
    ap (λ (r : Option ℕ). cond (is_business xs receipt) (elim r as (λ _. ℕ) [ Some day ↦ day | None ↦ receipt ]) receipt) (due_before-agrees a receipt xs ys h (receipt - a.opened) (receipt - 1) (omega arith))
    ∙ ap (λ b. cond b (elim (due_before a ys (receipt - a.opened) (receipt - 1)) as (λ _. ℕ) [ Some day ↦ day | None ↦ receipt ]) receipt) (is_business-agrees receipt xs ys h receipt (omega arith))

pub credit_day-agrees : (a : Anchor) (receipt minute : ℕ) (mail : Bool) (xs ys : List ℕ) → AgreeUpTo receipt xs ys → credit_day a xs receipt minute mail ≡ credit_day a ys receipt minute mail
unfolding credit_day
credit_day-agrees a receipt minute mail xs ys h =
    ap (λ d. cond (nat_lt cutoff minute) (receipt + 1) (cond mail d receipt)) (mail_day-agrees a receipt xs ys h)

-- a holiday loaded for a later day changes nothing up to this one
pub with_holiday-agrees : (last day : ℕ) (xs : List ℕ) → last < day → AgreeUpTo last (with_holiday day xs) xs
with_holiday-agrees last day xs l = λ x low. (let other : nat_eq x day ≡ false = grind (arith, nat_tests) in with_holiday-is xs day x ∙ ap (λ b. b || is_holiday xs x) other)
