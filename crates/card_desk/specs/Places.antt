-- The places of accounts.
use Rattle.std.specs.Prelude.{◌≡◌, ℕ, ◌+◌, ◌<◌, if◌then◌else◌, List, [], ◌∷◌, length, slice_index_or, slice_set, Option, Some, None}
use Rattle.std.specs.Str.{bytes_eq}
use Rattle.card_desk.specs.IndexPlaces.{place_of}
use Rattle.card_model.specs.Machine.{NamedAccount, lists_of, with_lists}
use Rattle.card_model.specs.Refusals.{Lists}

-- the place of the account with a name, where the first of the list has place n
unfoldable pub place_from : List ℕ → ℕ → List NamedAccount → Option ℕ
place_from name n [] = None
place_from name n (a ∷ others) = let later = place_from name (n + 1) others in if bytes_eq a.name name then Some n else later

-- the index says the place of each account
abbrev pub IsIndex : List (List ℕ × ℕ) → List NamedAccount → Type 0
IsIndex index accounts = (name : List ℕ) → place_of name index ≡ place_from name 0 accounts

-- the account with this name stands here
pub record IsPlace (name : List ℕ) (accounts : List NamedAccount) (i : ℕ) : Type 0 where
  pub bound : i < length accounts
  pub there : (d : NamedAccount) → lists_of name accounts ≡ Some (slice_index_or accounts i d).lists
  pub change : (l : Lists) (d : NamedAccount) → with_lists name l accounts ≡ slice_set accounts i (record { name = (slice_index_or accounts i d).name; lists = l })
