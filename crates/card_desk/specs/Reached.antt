-- The day that each account of a desk has reached, before a call and after it. Days are day numbers.
use Rattle.std.specs.Prelude.{◌≡◌, ◌-◌, ◌<◌, ◌++◌, ℕ, [], ◌∷◌, List, length, slice_index_or, slice_set, Option, Some, None, Result, OnOk, OnErr}
use Rattle.std.specs.List.{All}
use Rattle.card_account.specs.Reached.{StaysNear, StaysOrIsToday}
use Rattle.card_desk.specs.Desks.{OpenDesk}
use Rattle.card_desk.specs.Places.{place_from}
use Rattle.card_desk.specs.Steps.{ReachedLists, reached_there}
use Rattle.card_desk.specs.declared.view.Ask.{Ask}
use Rattle.card_desk.specs.declared.view.Ask.TheVariants as ask
use Rattle.card_events.specs.History.{anchor_of}
use Rattle.card_events.specs.SharedRows.{shared_rows}
use Rattle.card_events.specs.declared.request.Request.{Request}
use Rattle.card_events.specs.declared.request.Request.TheVariants as request
use Rattle.card_model.specs.Machine.{Accepts, Outcome, Refuses, Repeats, State, outcome_in}
use Rattle.card_model.specs.Refusals.{Lists}

-- every account's day stays
abbrev pub NoneMoves : OpenDesk → OpenDesk → Type 0
NoneMoves old new = new.reached ≡ old.reached

-- the day that the account at a place has reached
abbrev pub day_there : OpenDesk → ℕ → ℕ
day_there d i = slice_index_or d.reached i 0

-- This holds of the day that the account at a place has reached now, and every other account's day stays
pub record OneMoves (i : ℕ) (Holds : ℕ → Type 0) (old new : OpenDesk) : Type 0 where
  pub own : Holds (day_there new i)
  pub others : new.reached ≡ slice_set old.reached i (day_there new i)

-- the account at a place, where there is one, has reached today
abbrev pub OneReaches : Option ℕ → OpenDesk → OpenDesk → Type 0
OneReaches None old new = NoneMoves old new
OneReaches (Some i) old new = OneMoves i (λ day. day ≡ old.state.today) old new

-- it has reached today, or stays
abbrev pub OneStays : Option ℕ → OpenDesk → OpenDesk → Type 0
OneStays None old new = NoneMoves old new
OneStays (Some i) old new = OneMoves i (StaysOrIsToday old.state.today (day_there old i)) old new

-- ---- to ask
-- of the account at a place, where there is one: it has reached today where an answer comes
pub record MovesToTell {T E : Type 0} (place : Option ℕ) (result : Result T E) (old new : OpenDesk) : Type 0 where
  pub answered : OnOk result (OneReaches place old new)
  pub wanting : OnErr result (OneStays place old new)

-- of the account with a name
abbrev pub MovesNamed : {T E : Type 0} → List ℕ → Result T E → OpenDesk → OpenDesk → Type 0
MovesNamed name result old new = MovesToTell (place_from name 0 old.state.accounts) result old new

-- of all accounts: each has reached today where an answer comes
pub record AllMove {T E : Type 0} (result : Result T E) (old new : OpenDesk) : Type 0 where
  pub answered : OnOk result (All (λ day. day ≡ old.state.today) new.reached)
  pub count : length new.reached ≡ length old.reached
  pub each : (i : ℕ) → i < length old.reached → StaysOrIsToday old.state.today (day_there old i) (day_there new i)

-- What was issued moves none
unfoldable pub MovesToSee : {T E : Type 0} → Ask → Result T E → OpenDesk → OpenDesk → Type 0
MovesToSee (ask.Show account) result old new = MovesNamed account result old new
MovesToSee (ask.Issued account cycle) result old new = NoneMoves old new
MovesToSee (ask.Restated account cycle) result old new = MovesNamed account result old new
MovesToSee (ask.Entries account) result old new = MovesNamed account result old new
MovesToSee ask.Work result old new = AllMove result old new

-- ---- to carry out a request
-- the day of an account after a post, by what the post comes to
abbrev pub IsDayAfter : State → ReachedLists → Outcome → ℕ → Type 0
IsDayAfter s a (Accepts new) after = StaysNear s.today (shared_rows s.shared) a.lists new a.reached after
IsDayAfter s a (Refuses r) after = StaysOrIsToday s.today a.reached after
IsDayAfter s a (Repeats n) after = StaysOrIsToday s.today a.reached after

-- the day before the opening of an account, which it has where it has reached no day
abbrev pub day_before_opening : Lists → ℕ
day_before_opening lists = (anchor_of lists.posts).opened - 1

-- an accepted Open adds an account that has reached no day
abbrev pub MovesByOpen : Outcome → OpenDesk → OpenDesk → Type 0
MovesByOpen (Accepts lists) old new = new.reached ≡ old.reached ++ day_before_opening lists ∷ []
MovesByOpen (Refuses r) old new = NoneMoves old new
MovesByOpen (Repeats n) old new = NoneMoves old new

-- a post of the account at a place, or of one that isn't there
abbrev pub MovesBy : Option ℕ → Outcome → OpenDesk → OpenDesk → Type 0
MovesBy None o old new = MovesByOpen o old new
MovesBy (Some i) o old new = OneMoves i (IsDayAfter old.state (reached_there old i) o) old new

-- and after a fault
pub record MovesOn {T E : Type 0} (place : Option ℕ) (o : Outcome) (result : Result T E) (old new : OpenDesk) : Type 0 where
  pub done : OnOk result (MovesBy place o old new)
  pub failed : OnErr result (OneStays place old new)

-- A shared request moves none
unfoldable pub MovesToApply : {T E : Type 0} → Request → Result T E → OpenDesk → OpenDesk → Type 0
MovesToApply (request.Shared r) result old new = NoneMoves old new
MovesToApply (request.Post name key p) result old new = MovesOn (place_from name 0 old.state.accounts) (outcome_in old.state name key p) result old new
