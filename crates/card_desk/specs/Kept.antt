-- The rows of requests.
use Rattle.std.specs.Prelude.{◌≡◌, ℕ, ◌+◌, ◌-◌, ◌≤◌, true, if◌then◌else◌, List, [], ◌∷◌, length, take, slice_get, Option, Some, None, ⊤}
use Rattle.card_events.specs.declared.request.Request.{Request}
use Rattle.card_ports.specs.Rows.{next_seq}
use Rattle.card_ports.specs.declared.row.Row.{Row}
use Rattle.card_model.specs.Machine.{State, NamedAccount, start, run, is_new, accepted_from}
use Rattle.card_rows.specs.Spelling.{spelling, IsSomeSpelling}
use Rattle.card_rows.specs.declared.format.Format.TheVariants as format

-- the row that is written for a request, under a number
abbrev pub row_of : ℕ → Request → Row
row_of n r = record { seq = n; body = spelling format.Second r }

-- the rows of requests, numbered from n on
unfoldable pub rows_from : ℕ → List Request → List Row
rows_from n [] = []
rows_from n (r ∷ rs) = row_of n r ∷ rows_from (n + 1) rs

-- the rows of all newly accepted requests of a run
abbrev pub rows_of : List Request → List Row
rows_of rs = rows_from 1 rs

-- how many posts the accounts have
unfoldable pub posts_in : List NamedAccount → ℕ
posts_in [] = 0
posts_in (a ∷ others) = length a.lists.posts + posts_in others

-- how many requests a state has accepted: the shared ones, and each account's posts
abbrev pub accepted_count : State → ℕ
accepted_count s = length s.shared + posts_in s.accounts

-- the rows that a request adds
unfoldable pub new_rows : State → Request → List Row
new_rows s r = if is_new s r then row_of (accepted_count s + 1) r ∷ [] else []

-- the next row's number goes on from the accepted requests, where the rows are told
abbrev pub Fits : Option (List Row) → State → Type 0
Fits None s = ⊤
Fits (Some rows) s = next_seq rows ≡ accepted_count s + 1

-- row n spells a request, in one of the formats
pub record IsRowOf (n : ℕ) (row : Row) (r : Request) : Type 0 where
  pub seq : row.seq ≡ n
  pub spelled : IsSomeSpelling row.body r

-- the rows are those of these requests, numbered from n on, each in one of the formats
unfoldable pub AreRowsFrom : ℕ → List Row → List Request → Type 0
AreRowsFrom n [] [] = ⊤
AreRowsFrom n [] (r ∷ rs) = ⊥
AreRowsFrom n (row ∷ rows) [] = ⊥
AreRowsFrom n (row ∷ rows) (r ∷ rs) = IsRowOf n row r × AreRowsFrom (n + 1) rows rs

-- the rows are those of requests, each of which was newly accepted in its place
pub record AreSound (rows : List Row) (requests : List Request) : Type 0 where
  pub rows_are : AreRowsFrom 1 rows requests
  pub all_new : accepted_from start requests ≡ requests

-- row n is that of a request that is newly accepted in this state
pub record IsNewRow (s : State) (n : ℕ) (row : Row) (r : Request) : Type 0 where
  pub row_is : IsRowOf n row r
  pub newly : is_new s r ≡ true

-- row n is the first that isn't the row of a request that is newly accepted in its place
pub record AreDamaged (rows : List Row) (n : ℕ) : Type 0 where
  pub low : 1 ≤ n
  pub high : n ≤ length rows
  pub before : List Request
  pub sound : AreSound (take (n - 1) rows) before
  pub bad : (row : Row) → slice_get rows (n - 1) ≡ Some row → (r : Request) → IsNewRow (run before) n row r → ⊥

-- the state that sound rows give
pub record IsRunOf (rows : List Row) (s : State) : Type 0 where
  pub requests : List Request
  pub sound : AreSound rows requests
  pub state_is : s ≡ run requests

-- the same, where the rows are told
abbrev pub IsLoadedOf : Option (List Row) → State → Type 0
IsLoadedOf None s = ⊤
IsLoadedOf (Some rows) s = IsRunOf rows s

-- row n is the first that is damaged, where the rows are told
abbrev pub AreDamagedAt : Option (List Row) → ℕ → Type 0
AreDamagedAt None n = ⊤
AreDamagedAt (Some rows) n = AreDamaged rows n
