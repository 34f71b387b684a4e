-- One account, apart from all others: what a single request does, and what whole lists of requests do.
use Rattle.std.specs.Prelude.{ℕ, ◌≡◌, false, List, Option, Some, length, option_map}
use Rattle.std.specs.List.{filter}
use Rattle.card_desk.specs.Views.{seen}
use Rattle.card_desk.specs.declared.view.Ask.TheVariants as ask
use Rattle.card_events.specs.declared.post.Post.{Post}
use Rattle.card_events.specs.declared.reply.Reply.{Reply}
use Rattle.card_events.specs.declared.request.Request.{Request}
use Rattle.card_events.specs.declared.request.Request.TheVariants as request
use Rattle.card_model.specs.Cycles.{Cycle}
use Rattle.card_model.specs.Isolated.{NeverFull, concerns, is_on, is_shared, replies_where}
use Rattle.card_model.specs.Machine.{Accepts, Outcome, State, lists_of, outcome, reply_to, run_from, step}
use Rattle.card_model.specs.Refusals.{Lists, book_today}
use Rattle.card_model.specs.Work.{present_in}

-- what an account has after an outcome
abbrev pub lists_after : Outcome → Option Lists → Option Lists
lists_after (Accepts new) old = Some new
lists_after _ old = old

-- A request changes the lists of no account but the one that it names. Its reply, and what that account has afterwards, are
-- those of today, the shared requests, the lists of that account and, for its Open, the number of accounts
pub record IsApart (s : State) (r : Request) (new : State) (reply : Reply) : Type 0 where
  pub others : (name : List ℕ) → is_on name r ≡ false → lists_of name new.accounts ≡ lists_of name s.accounts
  pub own :
      (name key : List ℕ) (p : Post) → r ≡ request.Post name key p
      → reply ≡ reply_to (outcome s.today s.shared (length s.accounts) key p (lists_of name s.accounts))
  pub lists :
      (name key : List ℕ) (p : Post) → r ≡ request.Post name key p
      → lists_of name new.accounts ≡ lists_after (outcome s.today s.shared (length s.accounts) key p (lists_of name s.accounts)) (lists_of name s.accounts)

-- of every request, in every state
abbrev pub RequestsStandApart : Type 0
RequestsStandApart = (s : State) (r : Request) (new : State) (reply : Reply) → (new, reply) ≡ step s r → IsApart s r new reply

-- the cycles of an account, in its book of today, if it is there
abbrev pub cycles_of : State → List ℕ → Option (List Cycle)
cycles_of s name = option_map (λ lists. (book_today (present_in s lists)).cycles) (lists_of name s.accounts)

-- the account with a name has the same cycles in two states, and all that can be asked of it is answered alike
pub record LooksAlike (name : List ℕ) (s t : State) : Type 0 where
  pub cycles : cycles_of s name ≡ cycles_of t name
  pub shown : seen s (ask.Show name) ≡ seen t (ask.Show name)
  pub issued : (cycle : ℕ) → seen s (ask.Issued name cycle) ≡ seen t (ask.Issued name cycle)
  pub restated : (cycle : ℕ) → seen s (ask.Restated name cycle) ≡ seen t (ask.Restated name cycle)

-- after any two lists of requests that agree on the account and on what all accounts share, with the replies to the latter
abbrev pub LooksIsolated : Type 0
LooksIsolated =
    (name : List ℕ) (s : State) (xs ys : List Request) → NeverFull name s xs → NeverFull name s ys
    → filter (concerns name) xs ≡ filter (concerns name) ys
    → replies_where is_shared s xs ≡ replies_where is_shared s ys
    → LooksAlike name (run_from s xs) (run_from s ys)
