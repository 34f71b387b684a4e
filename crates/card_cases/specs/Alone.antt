-- The account of the cases with its opening alone.
use Rattle.std.specs.Prelude.{ℕ, ◌≡◌, ◌≤◌, List, [], ◌∷◌}
use Rattle.card_events.specs.SharedRows.{SharedRows}
use Rattle.card_events.specs.declared.kept.Kept.{Kept}
use Rattle.card_events.specs.declared.post.Place.TheVariants as place
use Rattle.card_events.specs.declared.post.Post.{Post}
use Rattle.card_events.specs.declared.post.Post.TheVariants as post
use Rattle.card_model.specs.Refusals.{Lists}
use Rattle.card_daily.specs.Given.{Given}
use Rattle.card_cases.specs.Account.{opening}

-- its history, whatever key the opening has, and whenever it was accepted
abbrev pub alone : ℕ → List ℕ → ℕ → List Kept
alone number key accepted = record { number = number; key = key; accepted = accepted; post = opening } ∷ []

pub record IsAlone (history : List Kept) : Type 0 where
  pub number : ℕ
  pub key : List ℕ
  pub accepted : ℕ
  pub is : history ≡ alone number key accepted

-- no holiday, no fee row and no index row
abbrev pub no_rows : SharedRows
no_rows = record { holidays = []; fees = []; index = [] }

-- what its fold is given: no issued statement, no holiday, no fee row and no index row
abbrev pub given_alone : List Kept → Given
given_alone history = record { history = history; issued = []; shared = no_rows }

-- its lists: no issued statement
abbrev pub lists_alone : ℕ → List ℕ → ℕ → Lists
lists_alone number key accepted = record { posts = alone number key accepted; issued = [] }

-- they are so of a post that was accepted by the opening day
pub record HasOpeningAlone (lists : Lists) : Type 0 where
  pub number : ℕ
  pub key : List ℕ
  pub accepted : ℕ
  pub early : accepted ≤ 19728
  pub is : lists ≡ lists_alone number key accepted

-- a charge of 2024-03-12
abbrev pub charge : Post
charge = post.Charge 19794 place.Purchase 5000
