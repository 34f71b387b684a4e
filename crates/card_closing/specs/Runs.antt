-- Equal days in a row, kept as one run.
use Rattle.std.specs.Prelude.{ℕ, ◌+◌, ◌≤◌, Bool, false, ◌&&◌, ◌==◌, List, [], ◌∷◌, ◌++◌}
use Rattle.std.specs.List.{All, sum_by}
use Rattle.card_model.specs.Limits.{balance_limit}
use Rattle.card_closing.specs.Rows.{DayRow, equal_days}
use Rattle.card_closing.specs.declared.runs.Run.{Run}

-- how many days runs have
abbrev pub run_days : List Run → ℕ
run_days runs = sum_by (λ (r : Run). r.days) runs

-- the days of runs, from one on
unfoldable pub spread : ℕ → List Run → List DayRow
spread from [] = []
spread from (r ∷ rs) = equal_days from r.days r.balance r.rate ++ spread (from + r.days) rs

-- the days of one more run, behind those of runs from one on
abbrev pub days_behind : ℕ → List Run → Run → List DayRow
days_behind from runs r = equal_days (from + run_days runs) r.days r.balance r.rate

-- the last run has this balance and rate
unfoldable pub ends_with : ℕ → ℕ → List Run → Bool
ends_with balance rate [] = false
ends_with balance rate (r ∷ []) = (r.balance == balance) && (r.rate == rate)
ends_with balance rate (r ∷ s ∷ rs) = ends_with balance rate (s ∷ rs)

-- a cycle has at most 31 days, and no balance above 10^15 cents
pub record AreRuns (runs : List Run) : Type 0 where
  pub days : run_days runs ≤ 31
  pub balances : All (λ (r : Run). r.balance ≤ balance_limit) runs
