-- Going back to a closing, or to the eve, after one more post. Days are day numbers.
use Rattle.std.specs.Prelude.{◌≡◌, ℕ, ◌+◌, ◌-◌, ◌<◌, ◌≤◌, true, false, [], ◌∷◌, ◌++◌, length, nat_le, Option, Some, None, IfSome}
use Rattle.std.specs.List.{filter}
use Rattle.card_events.specs.Billing.{cycle_of}
use Rattle.card_events.specs.Range.{last_request_day}
use Rattle.card_events.specs.History.{anchor_of, corrected}
use Rattle.card_events.specs.declared.kept.Kept.{Kept}
use Rattle.card_events.specs.declared.post.Post.{Post}
use Rattle.card_model.specs.Cycles.{Cycle}
use Rattle.card_model.specs.Folds.{cycle_at}
use Rattle.card_posts.specs.Change.{IsFirstChange}
use Rattle.card_book.specs.Renewed.{AwaitsPosts, HasNewPosts}
use Rattle.card_book.specs.Stands.{StandsFor, Summary, day_to_fold}
use Rattle.card_daily.specs.Given.{Given, IsSound}
use Rattle.card_daily.specs.declared.track.Track.{Track}
use Rattle.card_book.specs.GoingOn.{sets_rates}
use Rattle.card_replay.specs.Pasts.{AreFirst, IsFront}
use Rattle.card_replay.specs.Replays.{HasClosings, IsEve, IsFolding, IsWhole, day_of}
use Rattle.card_replay.specs.Steps.{first_in_cycle}
use Rattle.card_replay.specs.declared.change.TakenBack.{TakenBack}
use Rattle.card_past.specs.declared.eve.Eve.{Eve}
use Rattle.card_past.specs.declared.past.Ends.{Ends}
use Rattle.card_past.specs.declared.past.Past.{Past}
use Rattle.card_replay.specs.declared.rewinding.Earlier.{Earlier}

-- the number of the last cycle that closed before the one that a day lies in, 0 before the first closing, and for a day before the
-- opening
abbrev pub cycle_before : Given → ℕ → ℕ
cycle_before g day = cycle_of (anchor_of g.history) day - 1

-- where the lists of a past ended at that closing
pub record AreEndsOf (g : Given) (from : ℕ) (p : Past) (e : Ends) : Type 0 where
  pub cycles : e.cycles ≡ cycle_before g from
  pub none : e.cycles ≡ 0 → e.entries ≡ 0
  pub some : (c : Cycle) → cycle_at e.cycles p.track.cycles.items ≡ Some c → e.entries ≡ c.entries
  pub fees : e.fees ≡ length (filter (λ f. nat_le f.cycle e.cycles) p.track.fees.items)
  pub accrued : e.accrued ≡ length (filter (λ a. nat_le a.cycle e.cycles) p.accrued.items)

-- One post more, which issues nothing, and the first day that it changes
pub record IsOneMore (old g : Given) (p : Post) (from : ℕ) : Type 0 where
  pub kept : Kept
  pub post : kept.post ≡ p
  pub history : g.history ≡ old.history ++ kept ∷ []
  pub issued : g.issued ≡ old.issued
  pub shared : g.shared ≡ old.shared
  pub sound_before : IsSound old
  pub sound : IsSound g
  pub first : IsFirstChange from (corrected (anchor_of old.history) old.shared.holidays old.history) (corrected (anchor_of g.history) g.shared.holidays g.history)

-- and that day isn't after the one last reached
pub record Changes (old g : Given) (p : Post) (from reached : ℕ) : Type 0 where
  pub more : IsOneMore old g p from
  pub within : from ≤ reached
  pub last : reached ≤ last_request_day

-- the Book of the day reached and its past stand for the account without the post
pub record IsBeforeChange (old g : Given) (p : Post) (from reached : ℕ) (b : Summary) (past : Past) : Type 0 where
  pub changes : Changes old g p from reached
  pub folding : IsFolding old (record { reached = reached; book = Some b; past = past; eve = None })

-- so they do for some account
pub record MayRewind (g : Given) (p : Post) (from reached : ℕ) (b : Summary) (past : Past) : Type 0 where
  pub old : Given
  pub before : IsBeforeChange old g p from reached b past

-- the same, with the number of the last closing before the change
pub record MayGoBack (g : Given) (p : Post) (from cycle reached : ℕ) (b : Summary) (past : Past) : Type 0 where
  pub change : MayRewind g p from reached b past
  pub number : cycle ≡ cycle_before g from

-- they do for this account, and the eve does, where there is one; and the change sets no rate
pub record MayGoBackOn (old g : Given) (p : Post) (from cycle reached : ℕ) (b : Summary) (past : Past) (eve : Option Eve) : Type 0 where
  pub before : IsBeforeChange old g p from reached b past
  pub stood : IfSome eve (IsEve old reached past)
  pub number : cycle ≡ cycle_before g from
  pub plain : sets_rates p ≡ false

-- the change comes after the eve, and the cycle with this number, where there is one, was closed by then
pub record MayBegin (past : Past) (from cycle : ℕ) (e : Eve) : Type 0 where
  pub earlier : e.day < from
  pub closed : (c : Cycle) → cycle_at cycle past.track.cycles.items ≡ Some c → c.closing ≤ e.day

-- What the account is taken back to: it stands for the account with the post, at the end of a day that isn't after the one reached,
-- nor before the last closing before the change
pub record IsAgain (g : Given) (from reached : ℕ) (past : Past) (r : TakenBack) : Type 0 where
  pub near : first_in_cycle (anchor_of g.history) from ≤ day_to_fold g (day_of r.book)
  pub earlier : day_to_fold g (day_of r.book) ≤ reached + 1
  pub whole : IsWhole r.book
  pub closings : (new : Past) → IsFront r.ends past new → HasClosings g r.book new

-- Before the opening day there is no Book, and nothing is recorded
pub record IsAtBeginning (r : TakenBack) : Type 0 where
  pub book : r.book ≡ None
  pub ends : AreFirst r.ends

-- the account is taken back to this Book
abbrev pub back_at : Summary → Ends → TakenBack
back_at b e = record { book = Some b; ends = e }

-- A Book over the account with the post, with the segments and rates of all its posts, by one of the same day that stood without it
pub record HasRatesOf (g : Given) (earlier b : Summary) : Type 0 where
  pub day : b.day ≡ earlier.day
  pub whole : b.whole ≡ true
  pub stands : (old : Given) (day : ℕ) (t : Track) → HasNewPosts old g day earlier t → StandsFor g b t

-- with such a Book it stands for the account with the post
pub record IsAgainWithRates (g : Given) (from reached : ℕ) (past : Past) (r : Earlier) : Type 0 where
  pub awaits : AwaitsPosts g r.book
  pub again : (b : Summary) → HasRatesOf g r.book b → IsAgain g from reached past (back_at b r.ends)

-- The closing of a cycle: whichever post changes the account behind it, it stands with that post, or, where the post sets rates, with
-- these rates
pub record IsAtClosing (cycle : ℕ) (b : Summary) (past : Past) (r : Earlier) : Type 0 where
  pub plain : (g : Given) (p : Post) (from reached : ℕ) → MayGoBack g p from cycle reached b past → sets_rates p ≡ false → IsAgain g from reached past (back_at r.book r.ends)
  pub rates : (g : Given) (p : Post) (from reached : ℕ) → MayGoBack g p from cycle reached b past → IsAgainWithRates g from reached past r
