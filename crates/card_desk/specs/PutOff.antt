-- What a load put off: statements of accounts that aren't made yet, and the steps that make them by themselves. A fold that passes the day of
-- such a Bill makes its statement in its own steps.
use Rattle.std.specs.Prelude.{⊤, ◌≡◌, ◌<◌, ◌⊎◌, ℕ, Bool, false, length, List, [], ◌∷◌, ◌++◌, slice_index_or, slice_set, Option, Some, None, Result, OnOk}
use Rattle.std.specs.List.{All}
use Rattle.card_desk.specs.Desks.{OpenDesk}
use Rattle.card_desk.specs.Places.{place_from}
use Rattle.card_desk.specs.Steps.{AreFewToTell, reached_of}
use Rattle.card_desk.specs.declared.view.Ask.{Ask}
use Rattle.card_desk.specs.declared.view.Ask.TheVariants as ask
use Rattle.card_events.specs.declared.post.Post.{Post}
use Rattle.card_events.specs.declared.request.Request.{Request}
use Rattle.card_events.specs.declared.request.Request.TheVariants as request
use Rattle.card_model.specs.Machine.{Accepts, Outcome, outcome_in}
use Rattle.card_replay.specs.Needs.{makes_before}

-- ---- how many there are
-- of the account at a place
abbrev pub unmade_there : OpenDesk → ℕ → ℕ
unmade_there d i = slice_index_or d.unmade i 0

-- all of them are made, or none
abbrev pub AllOrNone : ℕ → OpenDesk → OpenDesk → Type 0
AllOrNone i old new = (unmade_there new i ≡ unmade_there old i) ⊎ (unmade_there new i ≡ 0)

-- so it is of the account at a place, and every other account's stay
pub record MakesThere (i : ℕ) (old new : OpenDesk) : Type 0 where
  pub own : AllOrNone i old new
  pub others : new.unmade ≡ slice_set old.unmade i (unmade_there new i)

-- where there is one
abbrev pub MakesAt : Option ℕ → OpenDesk → OpenDesk → Type 0
MakesAt None old new = new.unmade ≡ old.unmade
MakesAt (Some i) old new = MakesThere i old new

abbrev pub HasNoneAt : Option ℕ → OpenDesk → Type 0
HasNoneAt None d = ⊤
HasNoneAt (Some i) d = unmade_there d i ≡ 0

-- ---- after a question
-- of the account at a place, where there is one: none is left where an answer comes
pub record MakesToTell {T E : Type 0} (place : Option ℕ) (result : Result T E) (old new : OpenDesk) : Type 0 where
  pub made : MakesAt place old new
  pub answered : OnOk result (HasNoneAt place new)

-- of the account with a name
abbrev pub MakesNamed : {T E : Type 0} → List ℕ → Result T E → OpenDesk → OpenDesk → Type 0
MakesNamed name result old new = MakesToTell (place_from name 0 old.state.accounts) result old new

-- of all accounts
pub record MakesForAll {T E : Type 0} (result : Result T E) (old new : OpenDesk) : Type 0 where
  pub answered : OnOk result (All (λ n. n ≡ 0) new.unmade)
  pub count : length new.unmade ≡ length old.unmade
  pub each : (i : ℕ) → i < length old.unmade → AllOrNone i old new

unfoldable pub MakesToSee : {T E : Type 0} → Ask → Result T E → OpenDesk → OpenDesk → Type 0
MakesToSee (ask.Show account) result old new = MakesNamed account result old new
MakesToSee (ask.Issued account cycle) result old new = MakesNamed account result old new
MakesToSee (ask.Restated account cycle) result old new = MakesNamed account result old new
MakesToSee (ask.Entries account) result old new = MakesNamed account result old new
MakesToSee ask.Work result old new = MakesForAll result old new

-- ---- after a request
-- an account that is opened has none
abbrev pub MakesOn : Option ℕ → OpenDesk → OpenDesk → Type 0
MakesOn None old new = (new.unmade ≡ old.unmade) ⊎ (new.unmade ≡ old.unmade ++ 0 ∷ [])
MakesOn (Some i) old new = MakesThere i old new

unfoldable pub MakesToApply : Request → OpenDesk → OpenDesk → Type 0
MakesToApply (request.Shared r) old new = new.unmade ≡ old.unmade
MakesToApply (request.Post name key p) old new = MakesOn (place_from name 0 old.state.accounts) old new

-- ---- the steps that make them by themselves
-- none is taken for the account at a place where it has none
abbrev pub IsIdleAt : Option ℕ → OpenDesk → ℕ → ℕ → Type 0
IsIdleAt None d before after = after ≡ before
IsIdleAt (Some i) d before after = unmade_there d i ≡ 0 → after ≡ before

-- for a statement as it was issued they are at most as many as to tell of its account
pub record AreFewToIssue (name : List ℕ) (d : OpenDesk) (before after : ℕ) : Type 0 where
  pub few : AreFewToTell d.state (reached_of name d) before after
  pub idle : IsIdleAt (place_from name 0 d.state.accounts) d before after

-- for any other question none is taken
unfoldable pub AreOwedToSee : OpenDesk → Ask → ℕ → ℕ → Type 0
AreOwedToSee d (ask.Show account) before after = after ≡ before
AreOwedToSee d (ask.Issued account cycle) before after = AreFewToIssue account d before after
AreOwedToSee d (ask.Restated account cycle) before after = after ≡ before
AreOwedToSee d (ask.Entries account) before after = after ≡ before
AreOwedToSee d ask.Work before after = after ≡ before

-- whether some may be taken before a post that comes to this: one that isn't accepted asks for none
abbrev pub makes_first : Post → Outcome → Bool
makes_first p (Accepts new) = makes_before p
makes_first p _ = false

-- before a post of the account at a place: after some of them, where a reply comes, none is left to make
pub record AreTakenThere {T E : Type 0} (i : ℕ) (p : Post) (o : Outcome) (result : Result T E) (old new : OpenDesk) (before after : ℕ) : Type 0 where
  pub asked : makes_first p o ≡ false → after ≡ before
  pub idle : unmade_there old i ≡ 0 → after ≡ before
  pub once : OnOk result ((after ≡ before) ⊎ (unmade_there new i ≡ 0))

-- where there is one
abbrev pub AreTakenOn : {T E : Type 0} → Option ℕ → Post → Outcome → Result T E → OpenDesk → OpenDesk → ℕ → ℕ → Type 0
AreTakenOn None p o result old new before after = after ≡ before
AreTakenOn (Some i) p o result old new before after = AreTakenThere i p o result old new before after

-- and before a shared request none
unfoldable pub AreOwedToApply : {T E : Type 0} → Request → Result T E → OpenDesk → OpenDesk → ℕ → ℕ → Type 0
AreOwedToApply (request.Shared r) result old new before after = after ≡ before
AreOwedToApply (request.Post name key p) result old new before after =
    AreTakenOn (place_from name 0 old.state.accounts) p (outcome_in old.state name key p) result old new before after
