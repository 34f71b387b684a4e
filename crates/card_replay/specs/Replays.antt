-- An account with its book folded to the day last reached. Days are day numbers.
use Rattle.std.specs.Prelude.{◌≡◌, ◌⊎◌, ℕ, ◌+◌, ◌≤◌, Bool, true, List, [], ◌∷◌, OnOk, Result, Some}
use Rattle.std.specs.Option.{option_map}
use Rattle.card_events.specs.Business.{AgreeUpTo}
use Rattle.card_events.specs.Range.{last_request_day}
use Rattle.card_events.specs.History.{CorrectedPost, anchor_of, corrected}
use Rattle.card_events.specs.SharedRows.{SharedRows}
use Rattle.card_events.specs.declared.post.Post.{Post}
use Rattle.card_model.specs.Laws.{fees_up_to, index_up_to}
use Rattle.card_model.specs.Machine.{kept_as}
use Rattle.card_model.specs.Refusals.{Lists, Present}
use Rattle.card_posts.specs.Posted.{Posted, last_accepted}
use Rattle.card_posts.specs.Stored.{AreTimely}
use Rattle.card_daily.specs.Given.{IsSound}
pub use Rattle.card_past.specs.Foldings.{BeginsAgain, Folding, FoldsOn, HasClosings, HasMarks, IsEve, IsFolding, IsWhole, Stands, day_of, day_reached, given_of}
use Rattle.card_past.specs.Owes.{AreLate, Late}
use Rattle.card_past.specs.declared.eve.Eve.{Eve}

-- The eve after a fold to a day. It is as it was where this was the last day folded already; else it is of the day that was, and none where
-- none was
pub record KeepsEve (today : ℕ) (old new : Folding) : Type 0 where
  pub here : day_of old.book ≡ Some today → new.eve ≡ old.eve
  pub behind : (day_of old.book ≡ Some today → ⊥) → option_map (λ (e : Eve). e.day) new.eve ≡ day_of old.book

-- the account's posts and issued statements, the corrected list, whether there is room for one more post with its statement, which
-- statements are made and which are owed, and the folding
pub record Replay : Type 0 where
  pub lists : Lists
  pub corrected : List CorrectedPost
  pub has_room : Bool
  pub late : Late
  pub folding : Folding

-- what the account is judged and shown by today
abbrev pub present_of : ℕ → SharedRows → Lists → Present
present_of today shared lists = record { today = today; shared = shared; lists = lists }

-- ---- an account
-- What always holds of an account under these shared rows: the corrected list is that of its posts, it may be folded, each issued
-- statement is made or owed by a Bill of a later day than the one last reached, and what is kept of its book is the book of that day,
-- or of the day before the opening. Posts may have been accepted later
pub record IsReplay (shared : SharedRows) (r : Replay) : Type 0 where
  pub corrected : r.corrected ≡ corrected (anchor_of r.lists.posts) shared.holidays r.lists.posts
  pub sound : IsSound (given_of r.lists shared)
  pub timely : AreTimely (anchor_of r.lists.posts).opened r.lists.posts
  pub opened : (anchor_of r.lists.posts).opened ≤ r.folding.reached + 1
  pub dated : r.folding.reached ≤ last_request_day
  pub late : AreLate shared r.lists r.folding.reached r.late
  pub folding : IsFolding (given_of r.lists shared) r.folding

-- the account has reached today, which isn't before the opening day
pub record IsToday (today : ℕ) (shared : SharedRows) (r : Replay) : Type 0 where
  pub replay : IsReplay shared r
  pub reached : r.folding.reached ≡ today
  pub opened : (anchor_of r.lists.posts).opened ≤ today

-- the lists of an account that a post opens today
abbrev pub opened_lists : List ℕ → ℕ → Post → Lists
opened_lists key today p = record { posts = kept_as 1 key today p ∷ []; issued = [] }

-- the posts, as clauses on them see them
abbrev pub posted_of : Replay → Posted
posted_of r = record { history = r.lists.posts; corrected = r.corrected; has_room = r.has_room }

-- today isn't before the opening day, nor before the day last reached or one on which a post was accepted, and may be folded
pub record MayReach (today : ℕ) (r : Replay) : Type 0 where
  pub opened : (anchor_of r.lists.posts).opened ≤ today
  pub later : r.folding.reached ≤ today
  pub accepted : last_accepted r.lists.posts ≤ today
  pub last : today ≤ last_request_day

-- ---- what stays
-- the lists, and the corrected list with them
pub record SameLists (old new : Replay) : Type 0 where
  pub lists : new.lists ≡ old.lists
  pub corrected : new.corrected ≡ old.corrected
  pub room : old.has_room ≡ true → new.has_room ≡ true

-- of the statements that were owed, all are made or none is
abbrev pub MakesAllOrNone : Late → Late → Type 0
MakesAllOrNone old new = (new ≡ old) ⊎ (new.owed ≡ [])

-- Steps that make what is owed are taken where something is, and where an answer comes after them, nothing is owed any more
pub record MakesOnce {T E : Type 0} (result : Result T E) (old new : Late) (before after : ℕ) : Type 0 where
  pub idle : old.owed ≡ [] → after ≡ before
  pub once : OnOk result ((after ≡ before) ⊎ (new.owed ≡ []))

-- shared rows that an account doesn't see before the day after this one; index rows only where its opening rates follow the index
pub record AreLaterRows (variable : Bool) (day : ℕ) (old new : SharedRows) : Type 0 where
  pub holidays : AgreeUpTo day old.holidays new.holidays
  pub fees : fees_up_to day new ≡ fees_up_to day old
  pub index : variable ≡ true → index_up_to day new ≡ index_up_to day old
