-- What debits and credits come to where all accounts have reached today. Days are day numbers.
use Rattle.std.specs.Prelude.{ℕ, ℤ, ◌≡◌, ◌≤◌, pos, ◌+ℤ◌, List, [], ◌∷◌}
use Rattle.card_desk.specs.Desks.{IsRun}
use Rattle.card_desk.specs.Recorded.{all_entries, entries_on}
use Rattle.card_events.specs.Range.{first_calendar_day}
use Rattle.card_model.specs.Entries.{owed}
use Rattle.card_model.specs.Machine.{NamedAccount, State}
use Rattle.card_model.specs.declared.entry.EntryKind.TheVariants as kind
use Rattle.card_model.specs.declared.entry.Entry.{Entry}
use Rattle.card_trial.specs.Sums.{all_between, of_all_kinds}
use Rattle.card_trial.specs.declared.side.Side.{Side}
use Rattle.card_trial.specs.declared.side.Side.TheVariants as side

-- the debits, or the credits, of all kinds and all days up to one
unfoldable pub all_up_to : Side → ℕ → List (List Entry) → ℕ
all_up_to s day lists = of_all_kinds s first_calendar_day day lists

-- what is owed on an account at the end of a day
unfoldable pub owed_on : State → ℕ → NamedAccount → ℤ
owed_on s day a = owed (entries_on s a.lists day)

-- and on these together
abbrev pub owed_on_all : State → ℕ → List NamedAccount → ℤ
owed_on_all s day [] = pos 0
owed_on_all s day (a ∷ others) = owed_on s day a +ℤ owed_on_all s day others

-- Up to a day that isn't after today, debits less credits are what is owed on all accounts at its end; and on every day the debits
-- of hold are as much as its credits
pub record AreBalanced (s : State) : Type 0 where
  pub owed :
      (day : ℕ) → day ≤ s.today
      → pos (all_up_to side.Debits day (all_entries s)) ≡ owed_on_all s day s.accounts +ℤ pos (all_up_to side.Credits day (all_entries s))
  pub holds : (day : ℕ) → all_between side.Debits day day kind.Hold (all_entries s) ≡ all_between side.Credits day day kind.Hold (all_entries s)

-- so they are after every run
abbrev pub DebitsAndCredits : Type 0
DebitsAndCredits = (s : State) → IsRun s → AreBalanced s
