-- Holidays as a calendar keeps them, and what its search finds.
use Rattle.std.specs.Prelude.{◌≡◌, ℕ, ◌+◌, ◌<◌, ◌≤◌, List, [], ◌∷◌, length, slice_index}
use Rattle.card_events.specs.Range.{last_request_day}

-- ascending, each once, from a day on, and none after 2099-12-31
unfoldable pub AreHolidays : ℕ → List ℕ → Type 0
AreHolidays low [] = Unit {0}
AreHolidays low (x ∷ rest) = (low ≤ x) × (x ≤ last_request_day) × AreHolidays (x + 1) rest

-- the day stands at this place
abbrev pub IsPlaceOf : List ℕ → ℕ → ℕ → Type 0
IsPlaceOf holidays day i = (i < length holidays) × (slice_index holidays i ≡ day)

-- the day isn't there, and would stand at this place
pub record IsGapFor (holidays : List ℕ) (day i : ℕ) : Type 0 where
  pub inside : i ≤ length holidays
  pub before : (k : ℕ) → k < i → slice_index holidays k < day
  pub after : (k : ℕ) → i ≤ k → k < length holidays → day < slice_index holidays k
