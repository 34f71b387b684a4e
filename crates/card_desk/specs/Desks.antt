-- A desk, by its parts.
use Rattle.std.specs.Prelude.{◌≡◌, ◌≤◌, ℕ, true, map, length, slice_index_or, List}
use Rattle.std.specs.List.{All, list_all}
use Rattle.card_account.specs.Accounts.{IsAccount, OpenAccount}
use Rattle.card_events.specs.Business.{is_holiday}
use Rattle.card_events.specs.Range.{last_request_day}
use Rattle.card_rows.specs.Held.{is_request}
use Rattle.card_desk.specs.Applied.{are_short}
use Rattle.card_desk.specs.Kept.{accepted_count}
use Rattle.card_desk.specs.Places.{IsIndex}
use Rattle.card_events.specs.SharedRows.{SharedRows, shared_rows}
use Rattle.card_events.specs.declared.request.Request.{Request}
use Rattle.card_events.specs.declared.request.Shared.{Shared}
use Rattle.card_model.specs.Machine.{NamedAccount, State, run}
use Rattle.card_model.specs.declared.entry.Entry.{Entry}
use Rattle.card_model.specs.Refusals.{Present}
use Rattle.card_model.specs.Work.{present_in}

-- the accounts as the machine has them
abbrev pub named_all : List OpenAccount → List NamedAccount
named_all accounts = map (λ a. a.named) accounts

-- the state that a desk stands for
abbrev pub state_of : ℕ → List Shared → List OpenAccount → State
state_of today rows accounts = record { today = today; shared = rows; accounts = named_all accounts }

-- a desk, as clauses see it: its state; and of each account, in the order of their opening, the day last reached, what is recorded up
-- to then, and how many statements a load put off that aren't made yet
pub record OpenDesk : Type 0 where
  pub state : State
  pub reached : List ℕ
  pub recorded : List (List Entry)
  pub unmade : List ℕ

-- the days that accounts have reached
abbrev pub reached_all : List OpenAccount → List ℕ
reached_all accounts = map (λ a. a.folding.reached) accounts

-- what is recorded of them
abbrev pub recorded_all : List OpenAccount → List (List Entry)
recorded_all accounts = map (λ a. a.folding.past.track.entries.items) accounts

-- how many statements they owe
abbrev pub unmade_all : List OpenAccount → List ℕ
unmade_all accounts = map (λ a. length a.late.owed) accounts

-- the desk that these are
abbrev pub open_desk : ℕ → List Shared → List OpenAccount → OpenDesk
open_desk today rows accounts = record { state = state_of today rows accounts; reached = reached_all accounts; recorded = recorded_all accounts; unmade = unmade_all accounts }

-- what the account at a place is judged and shown by, in a state
abbrev pub now_at : State → ℕ → NamedAccount → Present
now_at s i d = present_in s (slice_index_or s.accounts i d).lists

-- some requests that may be spelled lead to the state
pub record IsRun (s : State) : Type 0 where
  pub requests : List Request
  pub taken : list_all is_request requests ≡ true
  pub state_is : s ≡ run requests

-- the same days are holidays
abbrev pub AreSameHolidays : List ℕ → List ℕ → Type 0
AreSameHolidays these those = (x : ℕ) → is_holiday these x ≡ is_holiday those x

-- what is kept of each account's book is its book, up to a day that isn't after today
abbrev pub AreAccounts : ℕ → SharedRows → List OpenAccount → Type 0
AreAccounts today common accounts = All (IsAccount today common) accounts

-- what is kept stands for the state
pub record IsDesk (places : List (List ℕ × ℕ)) (common : SharedRows) (count today : ℕ) (rows : List Shared) (opened : List OpenAccount) : Type 0 where
  pub index : IsIndex places (named_all opened)
  pub few : length opened ≤ 1_000_000
  pub short : are_short (named_all opened) ≡ true
  pub dated : today ≤ last_request_day
  pub holidays : AreSameHolidays common.holidays (shared_rows rows).holidays
  pub table : common.fees ≡ (shared_rows rows).fees
  pub index_rows : common.index ≡ (shared_rows rows).index
  pub accounts : AreAccounts today common opened
  pub counted : count ≡ accepted_count (state_of today rows opened)
  pub ran : IsRun (state_of today rows opened)
