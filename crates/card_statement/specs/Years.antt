-- The days of a calendar year. Days are day numbers.
use Rattle.std.specs.Prelude.{ℕ, ◌≡◌}
use Rattle.card_events.specs.Civil.{date_of, day_at}

-- these are the first and the last day of the calendar year of a day
pub record IsYearOf (day begins ends : ℕ) : Type 0 where
  pub first : begins ≡ day_at (date_of day).year 1 1
  pub last : ends ≡ day_at (date_of day).year 12 31
