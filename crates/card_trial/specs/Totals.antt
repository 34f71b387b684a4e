-- Debits and credits over all accounts.
use Rattle.std.specs.Prelude.{ℕ, ◌≡◌, ◌+◌, ◌*◌, ◌<◌, ◌≤◌, ◌^◌, List, length}
use Rattle.std.specs.List.{All}
use Rattle.card_desk.specs.Desks.{OpenDesk}
use Rattle.card_events.specs.Range.{first_calendar_day, last_calendar_day}
use Rattle.card_model.specs.declared.entry.Entry.{Entry}
use Rattle.card_model.specs.declared.entry.EntryKind.{EntryKind}
use Rattle.card_trial.specs.Sums.{AreSums, all_sizes, amount_of, cell, size, sum_on, whole}
use Rattle.card_trial.specs.declared.side.Side.{Side}
use Rattle.card_trial.specs.declared.side.Side.TheVariants as side

pub record BothSums : Type 0 where
  pub debits : List ℕ
  pub credits : List ℕ

abbrev pub of_side : Side → BothSums → List ℕ
of_side side.Debits t = t.debits
of_side side.Credits t = t.credits

-- nothing is entered
pub record AreNothing (t : BothSums) : Type 0 where
  pub cells : (s : Side) (x : ℕ) (k : EntryKind) → cell x k (of_side s t) ≡ 0
  pub wholes : (s : Side) → whole (of_side s t) ≡ 0

-- there is room for so many entries
pub record HaveRoom (n : ℕ) (t : BothSums) : Type 0 where
  pub room : (s : Side) → whole (of_side s t) + n * 2 ^ 63 < 2 ^ 127

-- entries are among what was entered
pub record AreEnough (es : List Entry) (t : BothSums) : Type 0 where
  pub enough : (s : Side) (x : ℕ) (k : EntryKind) → first_calendar_day ≤ x → x ≤ last_calendar_day → sum_on s x k es ≤ cell x k (of_side s t)

-- entries were entered
pub record AreEntered (es : List Entry) (old new : BothSums) : Type 0 where
  pub cells : (s : Side) (x : ℕ) (k : EntryKind) → first_calendar_day ≤ x → x ≤ last_calendar_day → cell x k (of_side s new) ≡ cell x k (of_side s old) + sum_on s x k es
  pub wholes : (s : Side) → whole (of_side s new) ≡ whole (of_side s old) + size s es
  pub small : (s : Side) → All (λ e. amount_of s e ≤ 2 ^ 63) es

-- they were taken out
pub record IsTakenOut (es : List Entry) (old new : BothSums) : Type 0 where
  pub cells : (s : Side) (x : ℕ) (k : EntryKind) → first_calendar_day ≤ x → x ≤ last_calendar_day → cell x k (of_side s new) + sum_on s x k es ≡ cell x k (of_side s old)
  pub wholes : (s : Side) → whole (of_side s new) + size s es ≡ whole (of_side s old)

-- they leave room for more kinds than there are
abbrev pub AreSmall : BothSums → Type 0
AreSmall t = (s : Side) → whole (of_side s t) ≤ 2 ^ 120

-- The totals are those of all lists of entries, and there are neither too many entries nor too large ones
pub record AreTotals (lists : List (List Entry)) (t : BothSums) : Type 0 where
  pub sums : (s : Side) → AreSums s lists (of_side s t)
  pub wholes : (s : Side) → whole (of_side s t) ≡ all_sizes s lists
  pub small : (s : Side) → All (λ es. All (λ e. amount_of s e ≤ 2 ^ 63) es) lists
  pub few : All (λ es. length es < 2 ^ 32) lists

-- a desk with its totals
pub record OpenLedger : Type 0 where
  pub desk : OpenDesk
  pub totals : BothSums
