-- A ledger with the account of the cases alone, its opening and nothing else, four years on.
use Rattle.std.specs.Prelude.{ℕ, ◌≡◌, ◌≤◌, List, [], ◌∷◌, ◌++◌}
use Rattle.card_events.specs.declared.kept.Kept.{Kept}
use Rattle.card_events.specs.declared.post.Place.TheVariants as place
use Rattle.card_events.specs.declared.post.Post.{Post}
use Rattle.card_events.specs.declared.post.Post.TheVariants as post
use Rattle.card_events.specs.declared.request.Shared.{Shared}
use Rattle.card_events.specs.declared.request.Shared.TheVariants as shared
use Rattle.card_model.specs.Machine.{State}
use Rattle.card_model.specs.Refusals.{Lists}
use Rattle.card_cases.specs.Account.{opening}

-- the name `a`, and the keys `o` and `c`
abbrev pub account : List ℕ
account = 97 ∷ []

abbrev pub first_key : List ℕ
first_key = 111 ∷ []

abbrev pub second_key : List ℕ
second_key = 99 ∷ []

-- a charge of 2028-01-04
abbrev pub late_charge : Post
late_charge = post.Charge 21187 place.Purchase 5000

-- the account's posts, without the charge and with it
abbrev pub opened : List Kept
opened = record { number = 1; key = first_key; accepted = 19728; post = opening } ∷ []

abbrev pub charged : List Kept
charged = opened ++ record { number = 2; key = second_key; accepted = 21187; post = late_charge } ∷ []

abbrev pub lists_of : List Kept → Lists
lists_of posts = record { posts = posts; issued = [] }

-- the ledger with it
abbrev pub ledger : ℕ → List Shared → List Kept → State
ledger today rows posts = record { today = today; shared = rows; accounts = record { name = account; lists = lists_of posts } ∷ [] }

-- on 2024-01-06, before the account is there and when it is
abbrev pub first_rolls : List Shared
first_rolls = shared.Roll 19728 ∷ []

abbrev pub first_day : State
first_day = record { today = 19728; shared = first_rolls; accounts = [] }

-- on 2028-01-03, and on the next day
abbrev pub rolls : List Shared
rolls = shared.Roll 19728 ∷ shared.Roll 20094 ∷ shared.Roll 20460 ∷ shared.Roll 20826 ∷ shared.Roll 21186 ∷ []

abbrev pub later_rolls : List Shared
later_rolls = rolls ++ shared.Roll 21187 ∷ []

-- the account has reached a day from 2027-12-05, which closed its last cycle, to 2028-01-04
pub record HasReachedNear (reached : List ℕ) : Type 0 where
  pub day : ℕ
  pub is : reached ≡ day ∷ []
  pub first : 21157 ≤ day
  pub last : day ≤ 21187
