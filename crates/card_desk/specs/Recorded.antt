-- What is recorded of accounts, in the order of their opening: it stays of all but one.
use Rattle.std.specs.Prelude.{⊤, ◌≡◌, ◌≤◌, ◌⊎◌, ℕ, length, map, take, List, [], ◌∷◌, ◌++◌, slice_set, Option, Some, None}
use Rattle.card_account.specs.Reached.{StaysNear}
use Rattle.card_desk.specs.Desks.{OpenDesk}
use Rattle.card_desk.specs.Places.{place_from}
use Rattle.card_desk.specs.Steps.{reached_there}
use Rattle.card_desk.specs.declared.view.Ask.{Ask}
use Rattle.card_desk.specs.declared.view.Ask.TheVariants as ask
use Rattle.card_events.specs.declared.post.Post.{Post}
use Rattle.card_events.specs.declared.request.Request.{Request}
use Rattle.card_events.specs.declared.request.Request.TheVariants as request
use Rattle.card_events.specs.SharedRows.{shared_rows}
use Rattle.card_model.specs.Folds.{book}
use Rattle.card_model.specs.Machine.{State, accepted}
use Rattle.card_model.specs.Refusals.{Lists}
use Rattle.card_model.specs.Work.{present_in}
use Rattle.card_model.specs.declared.entry.Entry.{Entry}

-- that of the account at a place may have changed
pub record ChangesAt (i : ℕ) (old new : List (List Entry)) : Type 0 where
  pub entries : List Entry
  pub changed : new ≡ slice_set old i entries

-- one account may have come
abbrev pub MayGrow : List (List Entry) → List (List Entry) → Type 0
MayGrow old new = (new ≡ old) ⊎ ((entries : List Entry) × (new ≡ old ++ entries ∷ []))

-- that of the account there may have changed, or else one may have come
abbrev pub StaysBut : Option ℕ → List (List Entry) → List (List Entry) → Type 0
StaysBut None old new = MayGrow old new
StaysBut (Some i) old new = ChangesAt i old new

-- that of the account there may have changed
abbrev pub MayChange : Option ℕ → List (List Entry) → List (List Entry) → Type 0
MayChange None old new = new ≡ old
MayChange (Some i) old new = ChangesAt i old new

-- that of the account that a request names may have changed, or it may have come; a shared request changes none
unfoldable pub AppliedStays : OpenDesk → Request → OpenDesk → Type 0
AppliedStays d (request.Shared r) new = new.recorded ≡ d.recorded
AppliedStays d (request.Post name key p) new = StaysBut (place_from name 0 d.state.accounts) d.recorded new.recorded

-- so may that of the account that is asked for; what was issued changes none
unfoldable pub SeenStays : OpenDesk → Ask → OpenDesk → Type 0
SeenStays d (ask.Show account) new = MayChange (place_from account 0 d.state.accounts) d.recorded new.recorded
SeenStays d (ask.Issued account cycle) new = new.recorded ≡ d.recorded
SeenStays d (ask.Restated account cycle) new = MayChange (place_from account 0 d.state.accounts) d.recorded new.recorded
SeenStays d (ask.Entries account) new = MayChange (place_from account 0 d.state.accounts) d.recorded new.recorded
SeenStays d ask.Work new = ⊤

-- ---- which entries these are
-- those of the book of an account with these lists, at the end of a day
unfoldable pub entries_on : State → Lists → ℕ → List Entry
entries_on s lists day = (book lists.posts lists.issued (shared_rows s.shared) day).entries

-- of the account at a place, at the end of the day that it has reached
abbrev pub entries_there : OpenDesk → ℕ → List Entry
entries_there d i = let a = reached_there d i in entries_on d.state a.lists a.reached

-- So many of the first entries that are recorded of the account at a place are also the first with a post more, accepted today under a
-- key, at the end of each day that the account may then have reached
pub record AreStanding (count place : ℕ) (p : Post) (d : OpenDesk) : Type 0 where
  pub within : count ≤ length (entries_there d place)
  pub stay :
      (key : List ℕ) (lists : Lists) (day : ℕ) → lists ≡ accepted (present_in d.state (reached_there d place).lists) key p
      → StaysNear d.state.today (shared_rows d.state.shared) (reached_there d place).lists lists (reached_there d place).reached day
      → take count (entries_on d.state lists day) ≡ take count (entries_there d place)

-- of all accounts, at the end of today
abbrev pub all_entries : State → List (List Entry)
all_entries s = map (λ a. entries_on s a.lists s.today) s.accounts
