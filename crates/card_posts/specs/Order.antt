-- Slots in the order in which they are folded.
use Rattle.std.specs.Prelude.{◌≡◌, ℕ, suc, ◌+◌, ◌<◌, ◌≤◌, Bool, true, false, ◌&&◌, ◌||◌, ◌==◌, nat_lt, if◌then◌else◌, List, [], ◌∷◌, ◌++◌, take, drop, length, slice_index_or}
use Rattle.std.specs.List.{filter}
use Rattle.card_events.specs.declared.kept.Slot.{Slot}

-- by effective day, then by number
abbrev pub before : Slot → Slot → Bool
before s t = nat_lt s.day t.day || ((s.day == t.day) && nat_lt s.number t.number)

-- a slot put behind those that come before it
unfoldable pub placed : Slot → List Slot → List Slot
placed s [] = s ∷ []
placed s (y ∷ ys) = if before y s then y ∷ placed s ys else s ∷ y ∷ ys

-- the slots by effective day, then by number
unfoldable pub in_order : List Slot → List Slot
in_order [] = []
in_order (s ∷ ss) = placed s (in_order ss)

-- it holds of each slot
abbrev pub Each : (Slot → Type 0) → List Slot → Type 0
Each P [] = Unit {0}
Each P (s ∷ ss) = P s × Each P ss

-- nothing stands behind what it comes before
unfoldable pub IsAscending : List Slot → Type 0
IsAscending [] = Unit {0}
IsAscending (s ∷ ss) = Each (λ (y : Slot). before y s ≡ false) ss × IsAscending ss

-- every slot in front of the place comes before this one, and none behind it
pub record IsPlace (s : Slot) (slots : List Slot) (place : ℕ) : Type 0 where
  pub front : (k : ℕ) (d : Slot) → k < place → k < length slots → before (slice_index_or slots k d) s ≡ true
  pub back : (k : ℕ) (d : Slot) → place ≤ k → k < length slots → before (slice_index_or slots k d) s ≡ false
  pub within : place ≤ length slots

-- each has its place as its number, where the first has number n
unfoldable pub HaveNumbers : ℕ → List Slot → Type 0
HaveNumbers n [] = Unit {0}
HaveNumbers n (s ∷ ss) = (s.number ≡ n) × HaveNumbers (suc n) ss

-- the slots of a day
abbrev pub on_day : ℕ → List Slot → List Slot
on_day day slots = filter (λ s. s.day == day) slots

-- the slots but one
abbrev pub without : ℕ → List Slot → List Slot
without i slots = take i slots ++ drop (i + 1) slots
