-- How much of what is recorded of an account stays when it takes a post. Days are day numbers.
use Rattle.std.specs.Prelude.{◌≡◌, ◌-◌, ◌<◌, ◌≤◌, ℕ, List, length, min, take}
use Rattle.card_daily.specs.Given.{book_on}
use Rattle.card_events.specs.Billing.{closing, cycle_of}
use Rattle.card_events.specs.History.{anchor_of}
use Rattle.card_events.specs.Limits.{post_limit}
use Rattle.card_events.specs.SharedRows.{SharedRows}
use Rattle.card_events.specs.declared.kept.Kept.{Kept}
use Rattle.card_events.specs.declared.post.Post.{Post}
use Rattle.card_model.specs.Machine.{accepted}
use Rattle.card_model.specs.Refusals.{Lists}
use Rattle.card_posts.specs.Draft.{IsFirstWith}
use Rattle.card_posts.specs.Posted.{IsReceived, target_of}
use Rattle.card_replay.specs.Replays.{Replay, given_of, posted_of, present_of}
use Rattle.card_replay.specs.Steps.{IsFirstBetween, IsNear}

-- a post may come today: there is room for one more, it is about none later than the last, and gives no day that may not be accepted
pub record MayCome (today : ℕ) (p : Post) (posts : List Kept) : Type 0 where
  pub few : length posts < post_limit
  pub target : target_of p ≤ length posts
  pub received : IsReceived (anchor_of posts).opened today p

-- the day is the first that the post changes, which may come
pub record IsForetold (shared : SharedRows) (today : ℕ) (p : Post) (r : Replay) (from : ℕ) : Type 0 where
  pub first : IsFirstWith shared.holidays today p (posted_of r) from
  pub may : MayCome today p r.lists.posts

-- the lists with the post, accepted today under a key
abbrev pub lists_after : ℕ → SharedRows → List ℕ → Post → Replay → Lists
lists_after today shared key p r = accepted (present_of today shared r.lists) key p

-- So many of the first entries are also the first of the book with the post, at the end of each day that the account may then have
-- reached. Where there are some, the post gives no day that may not be accepted
pub record AreStanding (count today : ℕ) (shared : SharedRows) (p : Post) (r : Replay) : Type 0 where
  pub within : count ≤ length r.folding.past.track.entries.items
  pub received : 0 < count → IsReceived (anchor_of r.lists.posts).opened today p
  pub stay :
      (key : List ℕ) (day : ℕ) → IsNear shared r.lists (lists_after today shared key p r) r.folding.reached day
      → take count (book_on (given_of (lists_after today shared key p r) shared) day).entries ≡ take count r.folding.past.track.entries.items

-- ---- how many there are
-- the last closing before the cycle that a day lies in, or, in the first cycle, the day before the opening
abbrev pub closing_before : List Kept → ℕ → ℕ
closing_before posts day = closing (anchor_of posts) (cycle_of (anchor_of posts) day - 1)

-- as many as the book has at the last closing before the earlier of the first day that the post changes and the day reached
pub record IsCountUpTo (count today : ℕ) (shared : SharedRows) (p : Post) (l : Lists) (reached : ℕ) : Type 0 where
  pub from : ℕ
  pub first : (key : List ℕ) → IsFirstBetween shared l (accepted (present_of today shared l) key p) from
  pub entries : count ≡ length (book_on (given_of l shared) (closing_before l.posts (min from reached))).entries

-- so many are told of an account with these lists that has reached a day, and none where the post may not come
pub record IsStandingCount (count today : ℕ) (shared : SharedRows) (p : Post) (l : Lists) (reached : ℕ) : Type 0 where
  pub some : MayCome today p l.posts → IsCountUpTo count today shared p l reached
  pub none : (MayCome today p l.posts → ⊥) → count ≡ 0
