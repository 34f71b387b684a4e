-- What was issued to an account stays as it was issued, whatever is asked afterwards.
use Rattle.std.specs.Prelude.{ℕ, ◌≡◌, Bool, true, false, ◌&&◌, List, ◌++◌, Option, Some}
use Rattle.std.specs.Option.{option_map}
use Rattle.std.specs.Str.{bytes_eq}
use Rattle.card_events.specs.declared.post.Post.{Post}
use Rattle.card_events.specs.declared.post.Post.TheVariants as post
use Rattle.card_events.specs.declared.request.Request.{Request}
use Rattle.card_events.specs.declared.request.Request.TheVariants as request
use Rattle.card_model.specs.Cycles.{IssuedRow}
use Rattle.card_model.specs.Machine.{State, lists_of, run_from, step}
use Rattle.card_model.specs.Refusals.{Lists}

-- the issued rows of the account with a name, where it is there
abbrev pub issued_in : List ℕ → State → Option (List IssuedRow)
issued_in name s = option_map (λ (l : Lists). l.issued) (lists_of name s.accounts)

-- the account is there, and its issued rows begin with these
pub record HasIssued (name : List ℕ) (rows : List IssuedRow) (s : State) : Type 0 where
  pub more : List IssuedRow
  pub issued : issued_in name s ≡ Some (rows ++ more)

-- The rows that an account has in any state begin those that it has after any further requests. So no request, a correction
-- included, changes or drops one
abbrev pub IssuedRowsStay : Type 0
IssuedRowsStay =
    (name : List ℕ) (s : State) (rows : List IssuedRow) (further : List Request) → issued_in name s ≡ Some rows → HasIssued name rows (run_from s further)

-- ---- what adds a row
-- a Bill
abbrev pub is_bill : Post → Bool
is_bill (post.Bill _) = true
is_bill _ = false

-- a Bill on the account with a name
abbrev pub bills_on : List ℕ → Request → Bool
bills_on name (request.Post other key p) = bytes_eq other name && is_bill p
bills_on name (request.Shared r) = false

-- a request that is no Bill on the account leaves it the rows that it has
abbrev pub OnlyBillsIssue : Type 0
OnlyBillsIssue =
    (name : List ℕ) (s : State) (rows : List IssuedRow) (r : Request) → issued_in name s ≡ Some rows → bills_on name r ≡ false → issued_in name (step s r).0 ≡ Some rows
