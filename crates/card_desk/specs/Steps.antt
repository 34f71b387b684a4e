-- How many steps a call on a desk takes. A step is a span of an account: at most one day with its posts, and the days before it. Those that
-- make what a load put off are counted apart, as put off. Days are day numbers.
use Rattle.std.specs.Prelude.{ℕ, Bool, false, ◌+◌, ◌*◌, ◌≡◌, ◌≤◌, List, [], slice_index_or, Option, Some, None}
use Rattle.std.specs.List.{sum_by, zip}
use Rattle.card_events.specs.Keys.{with_key}
use Rattle.card_events.specs.SharedRows.{shared_rows}
use Rattle.card_events.specs.declared.post.Post.{Post}
use Rattle.card_events.specs.declared.request.Request.{Request}
use Rattle.card_events.specs.declared.request.Request.TheVariants as request
use Rattle.card_model.specs.Machine.{Accepts, NamedAccount, Outcome, Refuses, Repeats, State, outcome_in}
use Rattle.card_model.specs.Refusals.{Lists}
use Rattle.card_book.specs.Stands.{steps_over}
use Rattle.card_book.specs.StepCounts.{breaks_from}
use Rattle.card_reasons.specs.Reasons.{reads_book}
use Rattle.card_replay.specs.Needs.{needs_today}
use Rattle.card_replay.specs.Replays.{given_of}
use Rattle.card_replay.specs.Steps.{AreFewSteps, IsFirstBetween, breaks_changed}
use Rattle.card_desk.specs.Desks.{OpenDesk}
use Rattle.card_desk.specs.Places.{place_from}
use Rattle.card_desk.specs.declared.view.Ask.{Ask}
use Rattle.card_desk.specs.declared.view.Ask.TheVariants as ask

-- ---- an account
-- its lists, and the day that it has reached
pub record ReachedLists : Type 0 where
  pub lists : Lists
  pub reached : ℕ

-- the account at a place
abbrev pub reached_there : OpenDesk → ℕ → ReachedLists
reached_there d i =
    record { lists = (slice_index_or d.state.accounts i (record { name = []; lists = record { posts = []; issued = [] } })).lists; reached = slice_index_or d.reached i 0 }

-- the same, where there is a place
abbrev pub reached_at : OpenDesk → Option ℕ → Option ReachedLists
reached_at d None = None
reached_at d (Some i) = Some (reached_there d i)

-- the account with a name
abbrev pub reached_of : List ℕ → OpenDesk → Option ReachedLists
reached_of name d = reached_at d (place_from name 0 d.state.accounts)

-- the break days from the day that it has reached to today
abbrev pub breaks_left : State → ReachedLists → ℕ
breaks_left s a = breaks_from (given_of a.lists (shared_rows s.shared)) a.reached s.today

-- the steps that bring it to today
abbrev pub steps_left : State → ReachedLists → ℕ
steps_left s a = steps_over (given_of a.lists (shared_rows s.shared)) s.today (a.reached + 1)

-- those of the account at a place
abbrev pub steps_at : OpenDesk → ℕ → ℕ
steps_at d i = steps_left d.state (reached_there d i)

-- ---- to ask
-- to tell of one account, at most one step more than break days are left
abbrev pub AreFewToTell : State → Option ReachedLists → ℕ → ℕ → Type 0
AreFewToTell s None before after = after ≡ before
AreFewToTell s (Some a) before after = after ≤ before + (breaks_left s a + 1)

-- of all of them
abbrev pub most_for_all : OpenDesk → ℕ
most_for_all d = sum_by (λ (x : NamedAccount × ℕ). breaks_left d.state (record { lists = x.0.lists; reached = x.1 }) + 1) (zip d.state.accounts d.reached)

-- For what was issued none is counted
unfoldable pub AreFewToSee : OpenDesk → Ask → ℕ → ℕ → Type 0
AreFewToSee d (ask.Show account) before after = AreFewToTell d.state (reached_of account d) before after
AreFewToSee d (ask.Issued account cycle) before after = after ≡ before
AreFewToSee d (ask.Restated account cycle) before after = AreFewToTell d.state (reached_of account d) before after
AreFewToSee d (ask.Entries account) before after = AreFewToTell d.state (reached_of account d) before after
AreFewToSee d ask.Work before after = after ≤ before + most_for_all d

-- ---- to carry out a request
-- an accepted post: twice the days that are break days before or after it, from the first day of the cycle in which the first
-- changed day lies, or from the day last reached where that is earlier, to today; and two more. One that isn't accepted: the same of
-- the days from the one last reached
abbrev pub AreFewToPost : State → ReachedLists → Outcome → ℕ → ℕ → Type 0
AreFewToPost s a (Accepts new) before after =
    (from : ℕ) → IsFirstBetween (shared_rows s.shared) a.lists new from
    → after ≤ before + (2 * breaks_changed s.today (shared_rows s.shared) a.lists new a.reached from + 2)
AreFewToPost s a (Refuses r) before after = after ≤ before + (2 * breaks_left s a + 2)
AreFewToPost s a (Repeats n) before after = after ≤ before + (2 * breaks_left s a + 2)

-- to keep an accepted post: at most those that are left to reach today, and those from the first day of that cycle on
abbrev pub AreFewToKeep : State → Option ReachedLists → Outcome → ℕ → ℕ → Type 0
AreFewToKeep s (Some a) (Accepts new) before after = AreFewSteps s.today (shared_rows s.shared) a.lists new a.reached before after
AreFewToKeep s _ _ before after = Unit {0}

-- a post of an account that is there; an Open takes none, nor does another post of one that isn't
abbrev pub AreFewOn : State → Option ReachedLists → Outcome → ℕ → ℕ → Type 0
AreFewOn s None o before after = after ≡ before
AreFewOn s (Some a) o before after = AreFewToPost s a o before after

-- a shared request takes none
unfoldable pub AreFewToApply : OpenDesk → Request → ℕ → ℕ → Type 0
AreFewToApply d (request.Shared r) before after = after ≡ before
AreFewToApply d (request.Post name key p) before after = AreFewOn d.state (reached_of name d) (outcome_in d.state name key p) before after

-- ---- to carry out a request without a step
-- to judge a post of an account takes none where its key is used there, nor where the post isn't judged by a book
pub record IsIdleToJudge (a : ReachedLists) (key : List ℕ) (p : Post) (before after : ℕ) : Type 0 where
  pub used : (with_key key a.lists.posts ≡ None → ⊥) → after ≡ before
  pub unread : reads_book p ≡ false → after ≡ before

-- whether today has to be reached for a post that comes to this: one that isn't accepted asks for nothing
abbrev pub asks_today : Post → Outcome → Bool
asks_today p (Accepts new) = needs_today p
asks_today p _ = false

-- No step is counted for a post whose key is used in its account, whether it is a repeat or refused; nor for one that isn't judged by a
-- book, where it isn't accepted, or sets no rates and is no Bill
pub record IsIdleToPost (a : ReachedLists) (key : List ℕ) (p : Post) (o : Outcome) (before after : ℕ) : Type 0 where
  pub used : (with_key key a.lists.posts ≡ None → ⊥) → after ≡ before
  pub unread : reads_book p ≡ false → asks_today p o ≡ false → after ≡ before

-- nor for any of an account that isn't there
abbrev pub IsIdleOn : Option ReachedLists → List ℕ → Post → Outcome → ℕ → ℕ → Type 0
IsIdleOn None key p o before after = after ≡ before
IsIdleOn (Some a) key p o before after = IsIdleToPost a key p o before after

-- nor for a shared request
unfoldable pub IsIdleToApply : OpenDesk → Request → ℕ → ℕ → Type 0
IsIdleToApply d (request.Shared r) before after = after ≡ before
IsIdleToApply d (request.Post name key p) before after = IsIdleOn (reached_of name d) key p (outcome_in d.state name key p) before after
