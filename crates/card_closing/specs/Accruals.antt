-- The interest that a deferred balance accrues over the whole period of its plan (12 CFR 1026.55(b)(1), comment 55(b)(1)-3).
use Rattle.std.specs.Prelude.{ℕ, ◌+◌, ◌-◌, ◌*◌, ◌≡◌, ◌≤◌, ◌<◌}
use Rattle.card_events.specs.Money.{daily}
use Rattle.card_model.specs.Books.{Book}
use Rattle.card_model.specs.Cycles.{Seen}
use Rattle.card_model.specs.Interest.{accrual, row}
use Rattle.card_model.specs.Segments.{SegmentTerms}

-- how many days accrued so far, and the sum of their balances, each times the daily rate in billionths
pub record Accrued : Type 0 where
  pub days : ℕ
  pub sum : ℕ

-- before the first day
abbrev pub nothing_accrued : Accrued
nothing_accrued = record { days = 0; sum = 0 }

-- after so many days more with the same balance and rate
abbrev pub with_accrual : ℕ → ℕ → ℕ → Accrued → Accrued
with_accrual n balance rate a = record { days = a.days + n; sum = a.sum + n * balance * daily rate }

-- ---- by the book
-- what a segment has accrued up to today, from the first day of its period
unfoldable pub accrued_in : Seen → Book → SegmentTerms → Accrued
accrued_in seen b g = record { days = seen.day + 1 - g.begins; sum = accrual seen b g }

-- a later day, with n days between on which the segment's row is the same
pub record GrowsBy (n balance : ℕ) (g : SegmentTerms) (seen later : Seen) (b c : Book) : Type 0 where
  pub begun : g.begins ≤ seen.day + 1
  pub day : later.day ≡ seen.day + n
  pub before : (day : ℕ) → g.begins ≤ day → day ≤ seen.day → row c.entries g.id day ≡ row b.entries g.id day
  pub since : (day : ℕ) → seen.day < day → day ≤ later.day → row c.entries g.id day ≡ balance

-- An accrual that began with nothing before a plan's day, and that took the row of each day since, is the definition's
pub record AccrualOfABook : Type 0 where
  pub begins : (seen : Seen) (b : Book) (g : SegmentTerms) → seen.day + 1 ≤ g.begins → accrued_in seen b g ≡ nothing_accrued
  pub grows :
      (n balance : ℕ) (g : SegmentTerms) (seen later : Seen) (b c : Book) → GrowsBy n balance g seen later b c
      → accrued_in later c g ≡ with_accrual n balance g.rate (accrued_in seen b g)
  pub sum : (seen : Seen) (b : Book) (g : SegmentTerms) → (accrued_in seen b g).sum ≡ accrual seen b g
