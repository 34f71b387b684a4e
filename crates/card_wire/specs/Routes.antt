-- What a path names.
use Rattle.std.specs.Prelude.{ℕ, ◌==◌, if◌then◌else◌, List, [], ◌∷◌, length, take, Option, Some, None, codes, option_and_then}
use Rattle.std.specs.List.{position_or_len, slice_split}
use Rattle.std.specs.Str.{bytes_eq}
use Rattle.card_events.specs.Names.{is_name}
use Rattle.card_lines.specs.Forms.{number_of}
use Rattle.card_wire.specs.declared.route.Route.{Route}
use Rattle.card_wire.specs.declared.route.Route.TheVariants as route

-- a target up to the question mark
unfoldable pub path_of : List ℕ → List ℕ
path_of target = take (position_or_len (λ b. b == 63) target) target

-- the parts of a path between its slashes
abbrev pub parts : List ℕ → List (List ℕ)
parts path = slice_split (λ b. b == 47) path

-- the name that a text is
abbrev pub account_of : List ℕ → Option (List ℕ)
account_of text = if is_name text then Some text else None

-- the statement or the cycle of an account, by its number
unfoldable pub numbered : List ℕ → List ℕ → ℕ → Option Route
numbered what account cycle =
    if bytes_eq what (codes "statements") then Some (route.Statement account cycle)
    else if bytes_eq what (codes "cycles") then Some (route.Cycle account cycle)
    else None

-- behind an account: nothing, `entries`, or `statements` or `cycles` with a number
unfoldable pub below_account : List (List ℕ) → List ℕ → Option Route
below_account [] account = Some (route.Account account)
below_account (what ∷ []) account = if bytes_eq what (codes "entries") then Some (route.Entries account) else None
below_account (what ∷ cycle ∷ []) account = option_and_then (numbered what account) (number_of cycle)
below_account (what ∷ cycle ∷ other ∷ others) account = None

-- behind `accounts`: a name
unfoldable pub of_account : List (List ℕ) → Option Route
of_account [] = None
of_account (account ∷ others) = option_and_then (below_account others) (account_of account)

-- a path of one part
unfoldable pub alone : List ℕ → Option Route
alone what =
    if bytes_eq what (codes "posts") then Some route.Posts
    else if bytes_eq what (codes "work") then Some route.Work
    else None

-- behind the first slash: one part, or `accounts` and more
unfoldable pub behind_slash : List (List ℕ) → Option Route
behind_slash [] = None
behind_slash (what ∷ []) = alone what
behind_slash (what ∷ next ∷ others) = if bytes_eq what (codes "accounts") then of_account (next ∷ others) else None

-- a path begins with a slash
unfoldable pub rooted : List (List ℕ) → Option Route
rooted [] = None
rooted (before ∷ others) = if length before == 0 then behind_slash others else None

-- the route of a path
abbrev pub route_of : List ℕ → Option Route
route_of path = rooted (parts path)

-- its method
abbrev pub method_of : Route → List ℕ
method_of route.Posts = codes "POST"
method_of _ = codes "GET"
