-- Places of days, from a place on.
use Rattle.std.proofs.Common.{◌≡◌, ℕ, ◌+◌, ◌-◌, ◌<◌, ◌≤◌, true, false, nat_lt, ltb-true, ltb-false, List, length, get_or, ap, arith, ◌⊎◌, inl, inr}
use Rattle.std.proofs.lemmas.Bool.{cases_lt}
use Rattle.card_events.specs.declared.kept.Slot.{Slot}
use Rattle.card_rates.specs.SlotLaws.{IsCut}

-- the slot in front of a place is of an earlier day
pub near-at-most : (slots : List Slot) (day near place : ℕ) (s : Slot) → IsCut slots day place → 1 ≤ near → near - 1 < length slots → s ≡ get_or slots (near - 1) s → nat_lt s.day day ≡ true → near ≤ place
near-at-most slots day near place s cut some within at is = by (cases_lt place near)
  where
    by : (place < near) ⊎ (near ≤ place) → near ≤ place
    by (inl m) =
        let back = cut.back (near - 1) s (omega (arith, m)) within in
        let same = ap (λ (t : Slot). t.day) at in
        let early = ltb-true _ _ is in
        absurd (omega (arith, back, same, early))
    by (inr m) = m

-- the slot at a place isn't
pub at-late : (slots : List Slot) (day place end : ℕ) (s : Slot) → IsCut slots day end → place ≤ end → place < length slots → s ≡ get_or slots place s → nat_lt s.day day ≡ false → place ≡ end
at-late slots day place end s cut l within at is = by (cases_lt place end)
  where
    by : (place < end) ⊎ (end ≤ place) → place ≡ end
    by (inl m) =
        let front = cut.front place s m within in
        let same = ap (λ (t : Slot). t.day) at in
        let late = ltb-false _ _ is in
        absurd (omega (arith, front, same, late))
    by (inr m) = omega (arith, l, m)

-- or it is
pub past-early : (slots : List Slot) (day place end : ℕ) (s : Slot) → IsCut slots day end → place ≤ end → place < length slots → s ≡ get_or slots place s → nat_lt s.day day ≡ true → place + 1 ≤ end
past-early slots day place end s cut l within at is = by (cases_lt place end)
  where
    by : (place < end) ⊎ (end ≤ place) → place + 1 ≤ end
    by (inl m) = omega (arith, m)
    by (inr m) =
        let back = cut.back place s m within in
        let same = ap (λ (t : Slot). t.day) at in
        let early = ltb-true _ _ is in
        absurd (omega (arith, back, same, early))
