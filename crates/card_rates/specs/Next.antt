-- The next day of some kind. Days are day numbers.
use Rattle.std.specs.Prelude.{ℕ, ◌≡◌, ◌≤◌, ◌<◌, Bool, true, false, ◌&&◌, ◌||◌, ◌==◌, nat_lt, List}
use Rattle.std.specs.List.{list_any}
use Rattle.card_events.specs.SharedRows.{IndexRow}
use Rattle.card_model.specs.Breaks.{breaks_penalty, breaks_segment}
use Rattle.card_rates.specs.RateBooks.{Rates}

-- the first day that passes, from a first one on and before an end; the end where none does
pub record IsNext (passes : ℕ → Bool) (first end day : ℕ) : Type 0 where
  pub low : first ≤ day
  pub high : day ≤ end
  pub none : (x : ℕ) → first ≤ x → x < day → passes x ≡ false
  pub some : day < end → passes day ≡ true

-- what makes a day a break day by rates: a plan ends, a vintage, its rate or a penalty begins, or the day before was a penalty's
-- last
abbrev pub changes : Rates → ℕ → Bool
changes r day = list_any (breaks_segment day) r.segments || list_any (breaks_penalty day) r.penalties

-- where the opening rates follow the index, what makes a day after the opening one by a row of it (12 CFR 1026.55(b)(2))
abbrev pub index_changes : ℕ → List IndexRow → Rates → ℕ → Bool
index_changes opened rows r day = r.variable && nat_lt opened day && list_any (λ row. row.day == day) rows
