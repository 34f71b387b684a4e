-- Which demonstrations there are.
use Rattle.std.specs.Prelude.{ℕ, ◌≤◌, ◌&&◌, nat_le, if◌then◌else◌, Option, Some, None}

-- where its generator begins, how many accounts it opens, and how many cycles they go through
pub record Demonstration : Type 0 where
  pub start : ℕ
  pub accounts : ℕ
  pub cycles : ℕ

-- at most 1,000 accounts, and 1 to 60 cycles
pub record IsInRange (accounts cycles : ℕ) : Type 0 where
  pub accounts_limit : accounts ≤ 1000
  pub first_cycle : 1 ≤ cycles
  pub cycles_limit : cycles ≤ 60

-- the demonstration of these numbers, where they are in range
unfoldable pub demonstration : ℕ → ℕ → ℕ → Option Demonstration
demonstration start accounts cycles =
    if nat_le accounts 1000 && (nat_le 1 cycles && nat_le cycles 60) then Some (record { start = start; accounts = accounts; cycles = cycles })
    else None
