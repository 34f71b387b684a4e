-- One account's run, apart from all others.
use Rattle.std.specs.Prelude.{ℕ, Bool, true, false, ◌≡◌, ◌≢◌, if◌then◌else◌, List, [], ◌∷◌, Option}
use Rattle.std.specs.List.{filter}
use Rattle.std.specs.Str.{bytes_eq}
use Rattle.card_events.specs.declared.reply.Refusal.TheVariants as refusal
use Rattle.card_events.specs.declared.reply.Reply.{Reply}
use Rattle.card_events.specs.declared.reply.Reply.TheVariants as reply
use Rattle.card_events.specs.declared.request.Request.{Request}
use Rattle.card_events.specs.declared.request.Request.TheVariants as request
use Rattle.card_events.specs.declared.request.Shared.{Shared}
use Rattle.card_model.specs.Machine.{State, lists_of, run_from, step}
use Rattle.card_model.specs.Refusals.{Lists}

-- what one account sees of a state: today, the shared requests, and its own lists. Its book depends on nothing else
pub record Own : Type 0 where
  pub today : ℕ
  pub shared : List Shared
  pub lists : Option Lists

-- that of the account with a name
abbrev pub own_of : List ℕ → State → Own
own_of name s = record { today = s.today; shared = s.shared; lists = lists_of name s.accounts }

-- a request that all accounts share
abbrev pub is_shared : Request → Bool
is_shared (request.Shared r) = true
is_shared _ = false

-- a request on the account with a name
abbrev pub is_on : List ℕ → Request → Bool
is_on name (request.Shared r) = false
is_on name (request.Post other key p) = bytes_eq other name

-- the shared requests and those on an account
abbrev pub concerns : List ℕ → Request → Bool
concerns name (request.Shared r) = true
concerns name (request.Post other key p) = bytes_eq other name

-- the replies to the requests that pass
unfoldable pub replies_where : (Request → Bool) → State → List Request → List Reply
replies_where p s [] = []
replies_where p s (r ∷ rs) = if p r then (step s r).1 ∷ replies_where p (step s r).0 rs else replies_where p (step s r).0 rs

-- no request on the account is refused because the ledger is full
unfoldable pub NeverFull : List ℕ → State → List Request → Type 0
NeverFull name s [] = Unit {0}
NeverFull name s (r ∷ rs) = (is_on name r ≡ true → (step s r).1 ≢ reply.Refused refusal.LedgerFull) × NeverFull name (step s r).0 rs

-- two runs have the same replies on an account, and leave it with the same lists
pub record AreAlike (name : List ℕ) (s : State) (xs ys : List Request) : Type 0 where
  pub replies : replies_where (is_on name) s xs ≡ replies_where (is_on name) s ys
  pub own : own_of name (run_from s xs) ≡ own_of name (run_from s ys)

-- An account depends on its own requests and the shared ones, with the replies to these, and on nothing else. (Whether
-- any account exists decides how far a Roll may go, so the replies to shared requests are named.)
abbrev pub Isolation : Type 0
Isolation =
    (name : List ℕ) (s : State) (xs ys : List Request) → NeverFull name s xs → NeverFull name s ys
    → filter (concerns name) xs ≡ filter (concerns name) ys
    → replies_where is_shared s xs ≡ replies_where is_shared s ys
    → AreAlike name s xs ys
