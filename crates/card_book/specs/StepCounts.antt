-- How many steps folds take together. Days are day numbers.
use Rattle.std.specs.Prelude.{ℕ, ◌+◌, ◌-◌, ◌≡◌, ◌≤◌, Bool, true, ◌||◌}
use Rattle.card_events.specs.Range.{last_request_day}
use Rattle.card_events.specs.History.{anchor_of}
use Rattle.card_model.specs.Breaks.{breaks_among}
use Rattle.card_model.specs.CycleDays.{IsOpening}
use Rattle.card_daily.specs.Given.{Given}
use Rattle.card_book.specs.Stands.{breaks_of, steps_over}

-- how many of the days from a first to a last are break days
abbrev pub breaks_from : Given → ℕ → ℕ → ℕ
breaks_from g first to = breaks_among (breaks_of g to) first (to + 1 - first)

-- a break day before or after a change
abbrev pub breaks_either : Given → Given → ℕ → ℕ → Bool
breaks_either old new to day = breaks_of old to day || breaks_of new to day

-- how many of the days from a first to a last are so
abbrev pub breaks_with : Given → Given → ℕ → ℕ → ℕ
breaks_with old new first to = breaks_among (breaks_either old new to) first (to + 1 - first)

-- The steps to a break day and those from there on are those of the whole; and a fold takes at most one step more than there are
-- break days from its first day, or an earlier one, to its last
pub record StepsAddUp : Type 0 where
  pub join :
      (g : Given) (first middle to : ℕ) → IsOpening (anchor_of g.history) → first ≤ middle + 1 → middle ≤ to → to ≤ last_request_day
      → breaks_of g to middle ≡ true → steps_over g middle first + steps_over g to (middle + 1) ≡ steps_over g to first
  pub few : (g : Given) (low first to : ℕ) → low ≤ first → steps_over g to first ≤ breaks_from g low to + 1
  pub wider : (old new : Given) (low first to : ℕ) → low ≤ first → breaks_with old new first to ≤ breaks_with old new low to
  pub before : (old new : Given) (first to : ℕ) → breaks_from old first to ≤ breaks_with old new first to
  pub after : (old new : Given) (first to : ℕ) → breaks_from new first to ≤ breaks_with old new first to
