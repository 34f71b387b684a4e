-- What is owed on a segment at the ends of the days of a cycle, from its balance behind them. Days are day numbers, amounts cents.
use Rattle.std.specs.Prelude.{ℕ, zero, suc, ◌==◌, ◌≡◌, ◌+◌, ◌<◌, Bool, ◌&&◌, ◌||◌, nat_le, nat_lt, List, [], ◌∷◌, ◌++◌, ℤ, pos, ◌-ℤ◌, slice_index_or}
use Rattle.std.specs.List.{All, filter}
use Rattle.card_model.specs.Entries.{at_least_zero, balance}
use Rattle.card_model.specs.declared.entry.Entry.{Entry}

-- what entries move on a segment after a day
unfoldable pub moved_after : ℕ → ℕ → List Entry → ℤ
moved_after s day entries = balance s (filter (λ e. nat_lt day e.day) entries)

-- something is owed on it at the end of the day, where these entries left it with so much
unfoldable pub is_owed_then : ℤ → List Entry → ℕ → ℕ → Bool
is_owed_then left entries s day = nat_lt 0 (at_least_zero (left -ℤ moved_after s day entries))

-- an entry is on a segment, and of a day from one to another
abbrev pub is_within : ℕ → ℕ → ℕ → Entry → Bool
is_within s first last e = (e.segment == s) && nat_le first e.day && nat_le e.day last

-- and something is owed at the end of its day
abbrev pub is_owed_after : ℤ → List Entry → ℕ → ℕ → ℕ → Entry → Bool
is_owed_after left entries s first last e = is_within s first last e && is_owed_then left entries s e.day

-- ---- entries in the order of their days
-- each is of the day of the one before or of a later one, from one day to another
unfoldable pub are_in_order : ℕ → ℕ → List Entry → Bool
are_in_order before last [] = nat_le before last
are_in_order before last (e ∷ es) = nat_le before e.day && are_in_order e.day last es

-- the day behind that of the entry before a place, and this one where there is none
unfoldable pub day_behind : ℕ → List Entry → ℕ → ℕ
day_behind behind es zero = behind
day_behind behind [] (suc n) = behind
day_behind behind (e ∷ es) (suc n) = day_behind (e.day + 1) es n

-- something is owed on a segment behind all entries, which left it with so much, or before one of them that is of a day after
-- the first, and the first one of its day: not before this day
unfoldable pub is_owed_between : ℤ → ℕ → ℕ → ℕ → List Entry → Bool
is_owed_between left s first behind [] = nat_lt 0 (at_least_zero left)
is_owed_between left s first behind (e ∷ es) =
    (nat_lt 0 (at_least_zero (left -ℤ balance s (e ∷ es))) && nat_le behind e.day && nat_lt first e.day) || is_owed_between left s first (e.day + 1) es

-- earlier entries are of the days before one, and with these behind them they left such balances
pub record LeaveBalances (first : ℕ) (earlier entries : List Entry) (balances : List ℤ) : Type 0 where
  pub days : All (λ e. e.day < first) earlier
  pub sums : (s : ℕ) → slice_index_or balances s (pos 0) ≡ balance s (earlier ++ entries)
