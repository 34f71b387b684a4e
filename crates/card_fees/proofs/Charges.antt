-- Penalty fees: their bounds, and one for a due date.
use Rattle.std.proofs.Common.{◌≡◌, ℕ, ◌+◌, ◌≤◌, Bool, true, false, cond, ◌||◌, ◌==◌, nat_le, nat_lt, List, [], ◌∷◌, ◌++◌, min, Option, Some, None, refl, sym, ap, ◌∙◌, subst, arith}
use Rattle.std.specs.List.{count_by}
use Rattle.std.specs.Option.{option_or}
use Rattle.std.proofs.lemmas.Bool.{eqb-true}
use Rattle.std.proofs.lemmas.Bool.Decides.{nat_tests}
use Rattle.std.proofs.lemmas.List.Sums.{sum_by_push}
use Rattle.card_events.specs.SharedRows.{FeeRow}
use Rattle.card_model.specs.Cycles.{Cycle, Seen}
use Rattle.card_model.specs.Fees.{fee_amount, fee_by, fee_cents, fee_of, is_charged_for, is_repeat, last_due, tier_amount}
use Rattle.card_model.specs.Payments.{asked, counted, has_due_payment, is_met, met}
use Rattle.card_model.specs.Segments.{last_that}
use Rattle.card_model.specs.declared.fee.Fee.{Fee}
use Rattle.card_fees.specs.Laws.{AreOneEach}
use Rattle.card_model.specs.declared.fee.Cause.{Cause}

-- what is known of a fee that is charged
pub record IsCharged (fees : List Fee) (c : Cause) (t minimum last : ℕ) (f : Fee) : Type 0 where
  pub cents : fee_cents f ≡ min t (min minimum last)
  pub first : is_charged_for c.due_cycle fees ≡ false
  pub for_it : f.due_cycle ≡ c.due_cycle

pub charged-parts : (row : Option FeeRow) (fees : List Fee) (c : Cause) (minimum last : ℕ) (f : Fee) → fee_by row fees c minimum last ≡ Some f → IsCharged fees c (tier_amount row (is_repeat c.kind c.cycle fees)) minimum last f
unfolding fee_by
charged-parts row fees c minimum last f h = at (is_charged_for c.due_cycle fees) refl (amount == 0) h
  where
    amount : ℕ
    amount = fee_amount row (is_repeat c.kind c.cycle fees) minimum last

    some : Some (fee_of c (is_repeat c.kind c.cycle fees) amount) ≡ Some f → fee_of c (is_repeat c.kind c.cycle fees) amount ≡ f
    some e = cc

    at : (b : Bool) → is_charged_for c.due_cycle fees ≡ b → (z : Bool) → cond (b || z) None (Some (fee_of c (is_repeat c.kind c.cycle fees) amount)) ≡ Some f → IsCharged fees c (tier_amount row (is_repeat c.kind c.cycle fees)) minimum last f
    at true e z h = absurd (cc)
    at false e true h = absurd (cc)
    at false e false h = record { cents = sym (ap fee_cents (some h)); first = e; for_it = sym (ap (λ (x : Fee). x.due_cycle) (some h)) }

pub fees-within : (row : Option FeeRow) (fees : List Fee) (c : Cause) (minimum last : ℕ) (f : Fee) → fee_by row fees c minimum last ≡ Some f → (fee_cents f ≤ minimum) × (fee_cents f ≤ last)
fees-within row fees c minimum last f h = let p = (charged-parts row fees c minimum last f h).cents in (omega (arith, p), omega (arith, p))

-- one where it is so
abbrev one-if : Bool → ℕ
one-if b = cond b 1 0

count-one-more : (k : ℕ) (fees : List Fee) (f : Fee) → count_by (λ (g : Fee). g.due_cycle == k) (fees ++ f ∷ []) ≡ count_by (λ (g : Fee). g.due_cycle == k) fees + one-if (f.due_cycle == k)
count-one-more k fees f = sum_by_push (λ (g : Fee). one-if (g.due_cycle == k)) fees f

none-counted : (k : ℕ) (fees : List Fee) → is_charged_for k fees ≡ false → count_by (λ (g : Fee). g.due_cycle == k) fees ≡ 0
none-counted k [] e = refl
none-counted k (g ∷ gs) e = at (g.due_cycle == k) refl e (none-counted k gs)
  where
    at : (b : Bool) → (g.due_cycle == k) ≡ b → (b || is_charged_for k gs) ≡ false → (is_charged_for k gs ≡ false → count_by (λ (g : Fee). g.due_cycle == k) gs ≡ 0) → count_by (λ (g : Fee). g.due_cycle == k) (g ∷ gs) ≡ 0
    at true q e r = absurd (cc)
    at false q e r = rw q (r e)

pub one-more-each : (fees : List Fee) (f : Fee) → AreOneEach fees → is_charged_for f.due_cycle fees ≡ false → AreOneEach (fees ++ f ∷ [])
one-more-each fees f one first k = at (f.due_cycle == k) refl
  where
    at : (b : Bool) → (f.due_cycle == k) ≡ b → count_by (λ (g : Fee). g.due_cycle == k) (fees ++ f ∷ []) ≤ 1
    at true e =
        let none = none-counted k fees (subst (λ n. is_charged_for n fees ≡ false) (eqb-true f.due_cycle k e) first) in
        let more = count-one-more k fees f in
        let is = ap one-if e in
        omega (arith, none, more, is)
    at false e =
        let before = one k in
        let more = count-one-more k fees f in
        let is = ap one-if e in
        omega (arith, before, more, is)

pub fees-one-each : (row : Option FeeRow) (fees : List Fee) (c : Cause) (minimum last : ℕ) (f : Fee) → AreOneEach fees → fee_by row fees c minimum last ≡ Some f → AreOneEach (fees ++ f ∷ [])
fees-one-each row fees c minimum last f one h =
    let p = charged-parts row fees c minimum last f h in
    one-more-each fees f one (ap (λ n. is_charged_for n fees) p.for_it ∙ p.first)

-- ---- a missed due date
last-passes : (p : Cycle → Bool) (before : List Cycle) (c : Cycle) → p c ≡ true → last_that p (before ++ c ∷ []) ≡ Some c
last-passes p [] c e = rw e refl
last-passes p (x ∷ xs) c e = ap (λ o. option_or o (cond (p x) (Some x) None)) (last-passes p xs c e)

missed-asks : (seen : Seen) (c : Cycle) → met seen c ≡ false → asked seen.issued (Some c) ≡ c.minimum
unfolding is_met
missed-asks seen c e = at (has_due_payment seen.issued c) e
  where
    at : (b : Bool) → nat_le (cond b c.minimum 0) (counted seen.posts (c.closing + 1) c.due) ≡ false → cond b c.minimum 0 ≡ c.minimum
    at true e = refl
    at false e = grind (arith, nat_tests)

pub missed-asks-last : (seen : Seen) (before : List Cycle) (c : Cycle) → seen.day ≡ c.due + 1 → met seen c ≡ false → asked seen.issued (last_due seen.day (before ++ c ∷ [])) ≡ c.minimum
missed-asks-last seen before c on missed =
    let is : nat_lt c.due seen.day ≡ true = grind (arith, nat_tests) in
    ap (asked seen.issued) (last-passes (λ (x : Cycle). nat_lt x.due seen.day) before c is) ∙ missed-asks seen c missed
