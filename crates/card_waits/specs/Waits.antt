-- The posts of an account that wait for another one: which of them do, and which is the first that waits for a post.
use Rattle.std.specs.Prelude.{◌≡◌, ℕ, suc, ◌+◌, ◌<◌, Bool, ◌&&◌, true, false, ◌==◌, if◌then◌else◌, List, [], ◌∷◌, length, slice_index_or, Option, Some, None}
use Rattle.card_events.specs.declared.kept.Kept.{Kept}
use Rattle.card_events.specs.declared.post.Post.{Post}
use Rattle.card_events.specs.declared.post.Post.TheVariants as post

-- a Return, a Dispute and a Resolve count no earlier than the post that they name
abbrev pub waits : Post → Bool
waits (post.Return _ _) = true
waits (post.Dispute _ _ _) = true
waits (post.Resolve _ _ _) = true
waits _ = false

-- the number of the post for which a post waits, 0 for none
abbrev pub awaited : Post → ℕ
awaited (post.Return _ target) = target
awaited (post.Dispute _ target _) = target
awaited (post.Resolve _ target _) = target
awaited _ = 0

-- the numbers of the posts that wait, where the first of the list has number n
unfoldable pub waiting_from : ℕ → List Kept → List ℕ
waiting_from n [] = []
waiting_from n (k ∷ ks) = let later = waiting_from (suc n) ks in if waits k.post then n ∷ later else later

-- the number of a post, where it waits
abbrev pub own_number : ℕ → Post → List ℕ
own_number n p = if waits p then n ∷ [] else []

-- the numbers of the posts of a history that wait, ascending
abbrev pub waiting : List Kept → List ℕ
waiting history = waiting_from 1 history

-- the number of the first of these posts that waits for a post, 0 for none, where the first of the list has number n
unfoldable pub first_from : ℕ → ℕ → List Kept → ℕ
first_from target n [] = 0
first_from target n (k ∷ ks) = if awaited k.post == target then n else first_from target (suc n) ks

-- the number of the first post of a history that waits for a post, 0 for none
abbrev pub first_by : ℕ → List Kept → ℕ
first_by target history = first_from target 1 history

-- a number, where it isn't 0
abbrev pub if_any : ℕ → Option ℕ
if_any n = if n == 0 then None else Some n

-- each of these posts, the first of which is post n, waits for an earlier one or for none
unfoldable pub WaitForEarlier : ℕ → List Kept → Type 0
WaitForEarlier n [] = Unit {0}
WaitForEarlier n (k ∷ ks) = (awaited k.post < n) × WaitForEarlier (suc n) ks

-- the last of these posts waits
unfoldable pub ends_waiting : List Kept → Bool
ends_waiting [] = false
ends_waiting (k ∷ []) = waits k.post
ends_waiting (k ∷ q ∷ ks) = ends_waiting (q ∷ ks)

-- ---- the table
-- a table: the numbers of the posts that wait, for each post a number, and of both lists how many they are and what they hold
pub record Waits : Type 0 where
  pub waiting : List ℕ
  pub by : List ℕ
  pub waiting_count : ℕ
  pub waiting_capacity : ℕ
  pub count : ℕ
  pub capacity : ℕ

-- there is room for one post more that waits
abbrev pub HasSpare : Waits → Type 0
HasSpare w = w.waiting_count < w.waiting_capacity

-- there is room for one post more
pub record HasRoom (w : Waits) : Type 0 where
  pub waiting_room : HasSpare w
  pub room : w.count < w.capacity

-- the table says which posts wait, and of each post the first that waits for it. While the last post doesn't wait, there is room
-- for one more that does
pub record AreWaits (history : List Kept) (w : Waits) : Type 0 where
  pub earlier : WaitForEarlier 1 history
  pub long : length w.by ≡ length history
  pub waiting : w.waiting ≡ waiting history
  pub by : (i : ℕ) → slice_index_or w.by i 0 ≡ first_by (i + 1) history
  pub spare : ends_waiting history ≡ false → HasSpare w

-- a number in place of another one for the post with a number
abbrev pub replaced : ℕ → ℕ → ℕ → ℕ → ℕ → ℕ
replaced target before after number now = if (number == target) && (now == before) then after else now

-- so far each number of the list
pub record IsReplaced (target before after : ℕ) (old new : List ℕ) : Type 0 where
  pub long : length new ≡ length old
  pub each : (i : ℕ) → slice_index_or new i 0 ≡ replaced target before after (i + 1) (slice_index_or old i 0)
