-- Transactions as they are gathered, entry by entry (12 CFR 1026.7(b)(2), (b)(3), (b)(6)). Amounts are cents.
use Rattle.std.specs.Prelude.{ℕ, ◌<◌, ◌≤◌, if◌then◌else◌, nat_lt, length, take, List, [], ◌∷◌, ◌+ℤ◌, nat_abs}
use Rattle.std.specs.List.{All, sum_by}
use Rattle.card_model.specs.declared.entry.Entry.{Entry}
use Rattle.card_model.specs.Sheets.{begun_move, is_of_move, moves_owed}
use Rattle.card_model.specs.declared.lines.Move.{Move}

-- a transaction with the cents of one entry more
abbrev pub raised_by : Entry → Move → Move
raised_by e m = record { day = m.day; kind = m.kind; post = m.post; cents = m.cents +ℤ e.cents }

-- transactions with one entry more: in its line, or in one of its own behind them
unfoldable pub with_entry : Entry → List Move → List Move
with_entry e [] = begun_move e [] ∷ []
with_entry e (m ∷ ms) = let later = m ∷ with_entry e ms in if is_of_move e m then raised_by e m ∷ ms else later

-- an entry that is of no transaction changes nothing
abbrev pub with_if : Entry → List Move → List Move
with_if e moves = if moves_owed e then with_entry e moves else moves

-- what entries move together, in size
unfoldable pub sizes : List Entry → ℕ
sizes entries = sum_by (λ e. nat_abs e.cents) entries

-- ---- the transactions of the latest day
-- the later of two days
abbrev pub later_of : ℕ → ℕ → ℕ
later_of latest day = if nat_lt latest day then day else latest

-- Where the transactions of a day may begin among so many: at a place on the latest day so far, behind all on a later one, and
-- anywhere on an earlier one
abbrev pub place_of : ℕ → ℕ → ℕ → ℕ → ℕ
place_of latest from count day = let back = if nat_lt day latest then 0 else from in if nat_lt latest day then count else back

-- transactions are of no day after the latest, and those before a place are of days before it
pub record AreUpTo (latest from : ℕ) (moves : List Move) : Type 0 where
  pub days : All (λ m. m.day ≤ latest) moves
  pub before : All (λ m. m.day < latest) (take from moves)
  pub count : from ≤ length moves
