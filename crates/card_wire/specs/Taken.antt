-- The routes as a router has them, and what it takes from a path.
use Rattle.std.specs.Prelude.{ℕ, List, [], ◌∷◌, ◌++◌, Option, Some, codes, option_and_then, option_map}
use Rattle.card_lines.specs.Forms.{number_of}
use Rattle.card_wire.specs.Routes.{account_of}
use Rattle.card_wire.specs.declared.route.Route.{Route}
use Rattle.card_wire.specs.declared.route.Route.TheVariants as route
use Rattle.card_wire.specs.declared.routes.Place.{Place}
use Rattle.card_wire.specs.declared.routes.Place.TheVariants as place
use Rattle.matchit.specs.Params.{named, walk}
use Rattle.matchit.specs.Router.{RouteOf}
use Rattle.matchit.specs.Rows.{RowsOf, param_token}
use Rattle.matchit.specs.declared.params.Params.{Params}

-- each name of a match, with its part of the path
abbrev pub taken : Params → List (List ℕ × List ℕ)
taken p = walk p.pattern.now p.text.now p.path.now p.names.now 0 0

abbrev pub account_taken : List (List ℕ × List ℕ) → Option (List ℕ)
account_taken pairs = option_and_then account_of (named (codes "account") pairs)

abbrev pub cycle_taken : List (List ℕ × List ℕ) → Option ℕ
cycle_taken pairs = option_and_then number_of (named (codes "cycle") pairs)

-- the route of a place with what was taken
abbrev pub placed_route : Place → List (List ℕ × List ℕ) → Option Route
placed_route place.Posts pairs = Some route.Posts
placed_route place.Account pairs = option_map route.Account (account_taken pairs)
placed_route place.Statement pairs = option_and_then (λ account. option_map (route.Statement account) (cycle_taken pairs)) (account_taken pairs)
placed_route place.Cycle pairs = option_and_then (λ account. option_map (route.Cycle account) (cycle_taken pairs)) (account_taken pairs)
placed_route place.Entries pairs = option_map route.Entries (account_taken pairs)
placed_route place.Work pairs = Some route.Work

-- the pattern of an account, and what lies below it
abbrev pub account_pattern : List ℕ → List ℕ
account_pattern below = codes "/accounts/" ++ param_token ∷ below

-- the six routes: the pattern, the text, where the names of its parameters stand in that, and the place
abbrev pub posts_route : RouteOf Place
posts_route = record { pattern = codes "/posts"; text = codes "/posts"; names = []; value = place.Posts }

abbrev pub account_route : RouteOf Place
account_route = record { pattern = account_pattern []; text = codes "/accounts/{account}"; names = (11, 18) ∷ []; value = place.Account }

abbrev pub statement_route : RouteOf Place
statement_route = record {
  pattern = account_pattern (codes "/statements/" ++ param_token ∷ []);
  text = codes "/accounts/{account}/statements/{cycle}";
  names = (11, 18) ∷ (32, 37) ∷ [];
  value = place.Statement;
}

abbrev pub cycle_route : RouteOf Place
cycle_route = record {
  pattern = account_pattern (codes "/cycles/" ++ param_token ∷ []);
  text = codes "/accounts/{account}/cycles/{cycle}";
  names = (11, 18) ∷ (28, 33) ∷ [];
  value = place.Cycle;
}

abbrev pub entries_route : RouteOf Place
entries_route = record { pattern = account_pattern (codes "/entries"); text = codes "/accounts/{account}/entries"; names = (11, 18) ∷ []; value = place.Entries }

abbrev pub work_route : RouteOf Place
work_route = record { pattern = codes "/work"; text = codes "/work"; names = []; value = place.Work }

-- their rows, in a router's order
abbrev pub six_routes : RowsOf (RouteOf Place)
six_routes =
    (cycle_route.pattern, cycle_route) ∷ (entries_route.pattern, entries_route) ∷ (statement_route.pattern, statement_route)
    ∷ (account_route.pattern, account_route) ∷ (posts_route.pattern, posts_route) ∷ (work_route.pattern, work_route) ∷ []
