-- A post that was prepared for an account, and what taking it makes of the account. Days are day numbers.
use Rattle.std.specs.Prelude.{◌≡◌, ℕ, ◌+◌, ◌<◌, ◌≤◌, true, false, List, [], ◌∷◌, ◌++◌, length, Option, Some, None}
use Rattle.std.specs.List.{All}
use Rattle.card_events.specs.Range.{last_request_day}
use Rattle.card_events.specs.History.{anchor_of, corrected}
use Rattle.card_events.specs.Keys.{with_key}
use Rattle.card_events.specs.Limits.{post_limit}
use Rattle.card_events.specs.SharedRows.{SharedRows}
use Rattle.card_events.specs.declared.post.Post.{Post}
use Rattle.card_model.specs.Machine.{accepted, issues, kept_as}
use Rattle.card_model.specs.Refusals.{Lists, reason_against}
use Rattle.card_model.specs.Unread.{is_unread}
use Rattle.card_book.specs.Laws.{is_bill}
use Rattle.card_daily.specs.Given.{IsSound}
use Rattle.card_posts.specs.Posted.{IsReceived, target_of}
pub use Rattle.card_past.specs.Rows.{issued_as, issued_from, sheet_on}
use Rattle.card_replay.specs.Needs.{needs_today}
use Rattle.card_replay.specs.Owes.{IsBillOf, Late, owed_as}
use Rattle.card_replay.specs.Pasts.{IsFront}
use Rattle.card_replay.specs.Replays.{Folding, IsFolding, IsReplay, MayReach, Replay, day_of, day_reached, given_of, present_of}
use Rattle.card_replay.specs.Steps.{IsNear}
use Rattle.card_replay.specs.declared.change.Change.{Change}
use Rattle.card_replay.specs.declared.change.TakenBack.{TakenBack}
use Rattle.card_past.specs.declared.owed.Owed.{Owed}

-- it is of this post, under this key, today
pub record IsChangeOf (name : List ℕ) (day : ℕ) (p : Post) (c : Change) : Type 0 where
  pub key : c.key ≡ name
  pub today : c.today ≡ day
  pub post : c.post ≡ p

-- ---- taking it
-- the lists with the post, and with the row that it issues
abbrev pub lists_with : SharedRows → Change → Lists → Lists
lists_with shared c l =
    record {
      posts = l.posts ++ kept_as (length l.posts + 1) c.key c.today c.post ∷ [];
      issued = l.issued ++ issues (present_of c.today shared l) c.post;
    }

-- the rows that are made and the Bills whose rows are owed, with what was prepared
abbrev pub late_with : Change → Late → Late
late_with c l = record { made = l.made ++ issued_as c.issued; owed = l.owed ++ owed_as c.owes }

-- The folding stays where the post takes it nowhere; else it is that of the earlier day, or of none, and there is no eve. The account is
-- opened on a day
pub record HasRewound (opened : ℕ) (r : TakenBack) (old new : Folding) : Type 0 where
  pub reached : new.reached ≡ day_reached opened (day_of r.book)
  pub book : new.book ≡ r.book
  pub past : IsFront r.ends old.past new.past
  pub eve : new.eve ≡ None

abbrev pub IsTaken : ℕ → Option TakenBack → Folding → Folding → Type 0
IsTaken opened None old new = new ≡ old
IsTaken opened (Some r) old new = HasRewound opened r old new

-- The account after the post. That is all that is said of it, so where this post was prepared it follows that it stands
pub record IsCommitted (shared : SharedRows) (c : Change) (old new : Replay) : Type 0 where
  pub lists : new.lists ≡ lists_with shared c old.lists
  pub late : new.late ≡ late_with c old.late
  pub corrected : new.corrected ≡ corrected (anchor_of new.lists.posts) shared.holidays new.lists.posts
  pub folding : IsTaken (anchor_of old.lists.posts).opened c.rewound old.folding new.folding

-- ---- preparing it
-- the post may be added to the account's posts
pub record MayBeAdded (c : Change) (r : Replay) : Type 0 where
  pub room : r.has_room ≡ true
  pub few : length r.lists.posts < post_limit
  pub target : target_of c.post ≤ length r.lists.posts
  pub dated : c.today ≤ last_request_day
  pub received : IsReceived (anchor_of r.lists.posts).opened c.today c.post

-- it has reached today, where the post asks for that
abbrev pub IsReadyFor : ℕ → Post → Replay → Type 0
IsReadyFor today p r = needs_today p ≡ true → r.folding.reached ≡ today

-- it is a Bill whose statement may be owed, since today isn't reached
pub record IsOwedFor (today : ℕ) (p : Post) (r : Replay) (o : Owed) : Type 0 where
  pub bill : IsBillOf r.lists.posts p o
  pub behind : r.folding.reached < today

-- it changes no day up to the closing of a cycle whose statement is owed
abbrev pub LeavesOwed : Post → ℕ → Replay → Type 0
LeavesOwed p from r = is_unread p ≡ false → All (λ o. o.closing < from) r.late.owed

-- where the post doesn't ask for that, what is folded of it stays, and no step is counted
abbrev pub FoldsIfNeeded : Post → Folding → Folding → ℕ → ℕ → Type 0
FoldsIfNeeded p old new before after = needs_today p ≡ false → (new ≡ old) × (after ≡ before)

-- nothing is folded, no statement is made, and no step is taken
abbrev pub StaysUnfolded : Replay → Replay → ℕ → ℕ → Type 0
StaysUnfolded old new before after = (new.folding ≡ old.folding) × (new.late ≡ old.late) × (after ≡ before)

-- a Bill's statement is owed where today isn't reached
abbrev pub OwesBill : ℕ → Post → ℕ → Change → Type 0
OwesBill today p reached c = is_bill p ≡ true → reached < today → c.owes ≡ None → ⊥

-- What is asked of an account for which a post is prepared that a fold reads: there is room for it, today is reached where the post asks
-- for that, no reason is against it, its key is new, and the account may be folded with it
pub record MayPrepare (shared : SharedRows) (today : ℕ) (key : List ℕ) (p : Post) (r : Replay) : Type 0 where
  pub replay : IsReplay shared r
  pub reach : MayReach today r
  pub ready : IsReadyFor today p r
  pub room : r.has_room ≡ true
  pub fresh : with_key key r.lists.posts ≡ None
  pub no_reason : reason_against (present_of today shared r.lists) p ≡ None
  pub sound : IsSound (given_of (accepted (present_of today shared r.lists) key p) shared)
  pub read : is_unread p ≡ false

-- The post was prepared for this account: the row is the one that the post issues, unless its statement is owed, and whatever the account
-- becomes by taking the post, it stands, and may be brought to today, from a day that isn't before the last closing before the change
pub record IsPrepared (shared : SharedRows) (c : Change) (r : Replay) : Type 0 where
  pub replay : IsReplay shared r
  pub reach : MayReach c.today r
  pub added : MayBeAdded c r
  pub issued : c.owes ≡ None → issued_as c.issued ≡ issues (present_of c.today shared r.lists) c.post
  pub next : (new : Replay) → IsCommitted shared c r new → IsReplay shared new
  pub reach_next : (new : Replay) → IsCommitted shared c r new → MayReach c.today new
  pub near : (new : Replay) → IsCommitted shared c r new → IsNear shared r.lists new.lists r.folding.reached new.folding.reached

-- the folding that the account comes to
abbrev pub Takes : Option TakenBack → Replay → Folding → Type 0
Takes made r f = IsTaken (anchor_of r.lists.posts).opened made r.folding f

-- what this post takes the account back to, if to anything: whatever the account becomes by taking it, it stands at the end of a day
-- that isn't after the one that was reached, nor before the last closing before the change
pub record IsRewoundBy (shared : SharedRows) (today : ℕ) (key : List ℕ) (p : Post) (made : Option TakenBack) (r : Replay) : Type 0 where
  pub earlier : (f : Folding) → Takes made r f → f.reached ≤ r.folding.reached
  pub near :
      (f : Folding) → Takes made r f → IsNear shared r.lists (accepted (present_of today shared r.lists) key p) r.folding.reached f.reached
  pub next :
      (f : Folding) → Takes made r f → IsFolding (given_of (accepted (present_of today shared r.lists) key p) shared) f
