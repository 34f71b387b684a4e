-- An index of posts by their keys in buckets: the last post of each bucket, and for each post the one before it in its bucket.
use Rattle.std.specs.Prelude.{◌≡◌, ℕ, ◌+◌, ◌*◌, ◌%◌, ◌<◌, ◌≤◌, ◌==◌, ◌++◌, if◌then◌else◌, List, [], ◌∷◌, length, slice_index_or, slice_set, Option, Some, None}
use Rattle.std.specs.List.{fold}
use Rattle.std.specs.Str.{bytes_eq}
use Rattle.card_events.specs.History.{at_number}
use Rattle.card_events.specs.declared.kept.Kept.{Kept}

-- a hash with one more byte: the bytes are digits to the base 31, and what lies above 32 bits is left out
abbrev pub hash_step : ℕ → ℕ → ℕ
hash_step hash byte = (hash * 31 + byte) % 4_294_967_296

-- the hash of a key
unfoldable pub hash_of : List ℕ → ℕ
hash_of key = fold hash_step 0 key

-- the key of a post, which is there or not
abbrev pub key_in : Option Kept → List ℕ
key_in None = []
key_in (Some k) = k.key

-- the key of the post with a number
abbrev pub key_of : List Kept → ℕ → List ℕ
key_of history number = key_in (at_number number history)

-- ---- the table
-- a table: for each bucket a number, for each post a number, how many posts, and what the list holds
pub record Indexed : Type 0 where
  pub heads : List ℕ
  pub earlier : List ℕ
  pub count : ℕ
  pub capacity : ℕ

-- the bucket of a key, of so many
abbrev pub bucket : ℕ → List ℕ → ℕ
bucket size key = hash_of key % size

-- the number of the last of these posts whose key has a hash, 0 for none; the first of them has number n
unfoldable pub last_in : (List ℕ → ℕ) → ℕ → ℕ → List Kept → ℕ
last_in hs hash n [] = 0
last_in hs hash n (k ∷ ks) =
    let later = last_in hs hash (n + 1) ks in
    let own = if hs k.key == hash then n else 0 in
    if later == 0 then own else later

-- for each post the last one before it whose key has the same hash: those before, and those that come
unfoldable pub earlier_from : (List ℕ → ℕ) → List Kept → List Kept → List ℕ
earlier_from hs before [] = []
earlier_from hs before (k ∷ ks) = last_in hs (hs k.key) 1 before ∷ earlier_from hs (before ++ k ∷ []) ks

-- the table says of each bucket the last post in it, and of each post the one before it
pub record IsIndex (history : List Kept) (i : Indexed) : Type 0 where
  pub size : ℕ
  pub some : 0 < size
  pub long : length i.heads ≡ size
  pub last : (b d : ℕ) → b < size → slice_index_or i.heads b d ≡ last_in (bucket size) b 1 history
  pub earlier : i.earlier ≡ earlier_from (bucket size) [] history

-- there is room for this many posts more
abbrev pub HasRoom : ℕ → Indexed → Type 0
HasRoom posts i = posts + i.count ≤ i.capacity

-- the table has one more post
pub record Enters (b number : ℕ) (old new : Indexed) : Type 0 where
  pub heads : new.heads ≡ slice_set old.heads b number
  pub earlier : (d : ℕ) → new.earlier ≡ old.earlier ++ slice_index_or old.heads b d ∷ []
  pub room : (n : ℕ) → HasRoom (n + 1) old → HasRoom n new

-- the table, whose list ended with a number, has the last post no more
pub record Leaves (b : ℕ) (old new : Indexed) : Type 0 where
  pub heads : (front : List ℕ) (x : ℕ) → old.earlier ≡ front ++ x ∷ [] → new.heads ≡ slice_set old.heads b x
  pub earlier : (front : List ℕ) (x : ℕ) → old.earlier ≡ front ++ x ∷ [] → new.earlier ≡ front
  pub room : (front : List ℕ) (x : ℕ) → old.earlier ≡ front ++ x ∷ [] → HasRoom 1 new

-- the post with this number, where it isn't 0, has the hash of a key
pub record IsWalked (hs : List ℕ → ℕ) (history : List Kept) (key : List ℕ) (number : ℕ) : Type 0 where
  pub within : number ≤ length history
  pub own : 0 < number → hs (key_of history number) ≡ hs key

-- the post with a number where it has the key, else the one found so far
abbrev pub found_at : List Kept → ℕ → List ℕ → Option ℕ → Option ℕ
found_at history number key found = if bytes_eq (key_of history number) key then Some number else found
