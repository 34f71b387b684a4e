-- The machine of accounts, the ledger's own: one step for each request, and whole runs.
use Rattle.std.specs.Prelude.{ℕ, ◌+◌, Bool, true, false, ◌&&◌, ◌||◌, not, nat_le, nat_lt, if◌then◌else◌, is_some, List, [], ◌∷◌, ◌++◌, length, Option, Some, None}
use Rattle.std.specs.Str.{bytes_eq}
use Rattle.card_events.specs.Range.{first_calendar_day}
use Rattle.card_events.specs.Money.{rate_limit}
use Rattle.card_events.specs.History.{at_number, is_open}
use Rattle.card_events.specs.Keys.{with_key}
use Rattle.card_events.specs.Same.{is_same_post}
use Rattle.card_events.specs.SharedRows.{shared_rows}
use Rattle.card_events.specs.declared.kept.Kept.{Kept}
use Rattle.card_events.specs.declared.post.Post.{Post}
use Rattle.card_events.specs.declared.post.Post.TheVariants as post
use Rattle.card_events.specs.declared.reply.Refusal.{Refusal}
use Rattle.card_events.specs.declared.reply.Refusal.TheVariants as refusal
use Rattle.card_events.specs.declared.reply.Reply.{Reply}
use Rattle.card_events.specs.declared.reply.Reply.TheVariants as reply
use Rattle.card_events.specs.declared.request.Request.{Request}
use Rattle.card_events.specs.declared.request.Request.TheVariants as request
use Rattle.card_events.specs.declared.request.Shared.{Shared}
use Rattle.card_events.specs.declared.request.Shared.TheVariants as shared
use Rattle.card_model.specs.Cycles.{IssuedRow}
use Rattle.card_model.specs.Folds.{rows_issued}
use Rattle.card_model.specs.Refusals.{Lists, Present, book_today, first_reason, reason_against, reason_to_open, where_true}
use Rattle.card_model.specs.Sheets.{issued_sheet_of}

-- an account by its name
pub record NamedAccount : Type 0 where
  pub name : List ℕ
  pub lists : Lists

-- today, the accepted shared requests, and the accounts
pub record State : Type 0 where
  pub today : ℕ
  pub shared : List Shared
  pub accounts : List NamedAccount

-- 2011-01-01, and nothing else
abbrev pub start : State
start = record { today = first_calendar_day; shared = []; accounts = [] }

-- the lists of an account
unfoldable pub lists_of : List ℕ → List NamedAccount → Option Lists
lists_of name [] = None
lists_of name (x ∷ xs) = let later = lists_of name xs in if bytes_eq x.name name then Some x.lists else later

-- the accounts with these lists for one of them
unfoldable pub with_lists : List ℕ → Lists → List NamedAccount → List NamedAccount
with_lists name l [] = record { name = name; lists = l } ∷ []
with_lists name l (x ∷ xs) =
    let later = x ∷ with_lists name l xs in
    if bytes_eq x.name name then record { name = x.name; lists = l } ∷ xs else later

-- ---- a post
-- what a post comes to on one account
pub data Outcome : Type 0 where
  Refuses : (r : Refusal) → Outcome
  Repeats : (number : ℕ) → Outcome
  Accepts : (new : Lists) → Outcome

-- a post as it is accepted under the next number
abbrev pub kept_as : ℕ → List ℕ → ℕ → Post → Kept
kept_as n key today p = record { number = n; key = key; accepted = today; post = p }

-- the number of the next post
abbrev pub next_number : Present → ℕ
next_number now = length now.lists.posts + 1

-- the row that a Bill issues: its cycle and its sheet as the book has them now
abbrev pub issues : Present → Post → List IssuedRow
issues now (post.Bill cycle) = rows_issued cycle (next_number now) now.today (issued_sheet_of now) (book_today now)
issues now _ = []

-- the lists with one more post
unfoldable pub accepted : Present → List ℕ → Post → Lists
accepted now key p =
    record {
      posts = now.lists.posts ++ kept_as (next_number now) key now.today p ∷ [];
      issued = now.lists.issued ++ issues now p;
    }

-- a post that has a reason against it is refused, else it is accepted
abbrev pub judged : Present → List ℕ → Post → Option Refusal → Outcome
judged now key p (Some r) = Refuses r
judged now key p None = Accepts (accepted now key p)

-- a post with the content of the one that is there
abbrev pub is_repeat_of : Post → Option Kept → Bool
is_repeat_of p None = false
is_repeat_of p (Some k) = is_same_post p k.post

-- a key that is there is a repeat of equal content, or used for other content
abbrev pub at_key : Present → List ℕ → Post → Option ℕ → Outcome
at_key now key p (Some n) = if is_repeat_of p (at_number n now.lists.posts) then Repeats n else Refuses (refusal.KeyReused n)
at_key now key p None =
    let new = judged now key p (reason_against now p) in
    if is_open p then Refuses refusal.AccountExists else new

-- an opening begins an account where nothing is against it
abbrev pub opened : List ℕ → ℕ → Post → Option Refusal → Outcome
opened key today p (Some r) = Refuses r
opened key today p None = Accepts (record { posts = kept_as 1 key today p ∷ []; issued = [] })

-- What a post comes to depends on today, the shared requests, the account's own lists and, of an opening, the number of
-- accounts
unfoldable pub outcome : ℕ → List Shared → ℕ → List ℕ → Post → Option Lists → Outcome
outcome today rows accounts key p None =
    if is_open p then opened key today p (reason_to_open today accounts (shared_rows rows) p) else Refuses refusal.UnknownAccount
outcome today rows accounts key p (Some lists) =
    at_key (record { today = today; shared = shared_rows rows; lists = lists }) key p (with_key key lists.posts)

-- the reply to an outcome
abbrev pub reply_to : Outcome → Reply
reply_to (Refuses r) = reply.Refused r
reply_to (Repeats n) = reply.Accepted n
reply_to (Accepts new) = reply.Accepted (length new.posts)

-- the accounts after an outcome on one of them
abbrev pub accounts_after : List ℕ → Outcome → List NamedAccount → List NamedAccount
accounts_after name (Accepts new) accounts = with_lists name new accounts
accounts_after name _ accounts = accounts

-- ---- a shared request
-- why it isn't accepted, where some account exists or none does
unfoldable pub shared_reason : ℕ → Bool → Shared → Option Refusal
shared_reason today any (shared.Roll day) =
    first_reason (where_true (nat_le day today) (refusal.RollBack today) ∷ where_true (any && nat_lt (today + 366) day) refusal.RollTooFar ∷ [])
shared_reason today any (shared.Holiday day) = where_true (nat_le day today) (refusal.PastRow today)
shared_reason today any (shared.FeeRow day first repeat) =
    first_reason (
    where_true (nat_lt 100000 first || nat_lt 100000 repeat || nat_lt repeat first) refusal.AmountRange
    ∷ where_true (nat_le day today) (refusal.PastRow today) ∷ [])
shared_reason today any (shared.Index day rate) =
    first_reason (where_true (nat_lt rate_limit rate) refusal.AmountRange ∷ where_true (nat_le day today) (refusal.PastRow today) ∷ [])

-- today after a shared request
abbrev pub rolled : ℕ → Shared → ℕ
rolled today (shared.Roll day) = day
rolled today _ = today

-- a shared request is refused, or kept in order
abbrev pub with_shared : State → Shared → Option Refusal → State × Reply
with_shared s r (Some e) = (s, reply.Refused e)
with_shared s r None = (record { today = rolled s.today r; shared = s.shared ++ r ∷ []; accounts = s.accounts }, reply.Done)

-- some account exists
abbrev pub has_accounts : State → Bool
has_accounts s = nat_lt 0 (length s.accounts)

-- ---- steps and runs
-- the outcome of a post in a state
abbrev pub outcome_in : State → List ℕ → List ℕ → Post → Outcome
outcome_in s name key p = outcome s.today s.shared (length s.accounts) key p (lists_of name s.accounts)

-- the state after an outcome, and the reply to it
abbrev pub with_outcome : State → List ℕ → Outcome → State × Reply
with_outcome s name o = (record { today = s.today; shared = s.shared; accounts = accounts_after name o s.accounts }, reply_to o)

-- one request: the next state, and the reply
unfoldable pub step : State → Request → State × Reply
step s (request.Shared r) = with_shared s r (shared_reason s.today (has_accounts s) r)
step s (request.Post name key p) = with_outcome s name (outcome_in s name key p)

-- the state after requests, and the replies to them
unfoldable pub run_from : State → List Request → State
run_from s [] = s
run_from s (r ∷ rs) = run_from (step s r).0 rs

-- the replies to requests, each in the state that those before it left
unfoldable pub replies_from : State → List Request → List Reply
replies_from s [] = []
replies_from s (r ∷ rs) = (step s r).1 ∷ replies_from (step s r).0 rs

-- the state after all requests
abbrev pub run : List Request → State
run rs = run_from start rs

-- the replies to all requests
abbrev pub replies : List Request → List Reply
replies rs = replies_from start rs

-- an outcome that is neither a refusal nor a repeat
abbrev pub accepts : Outcome → Bool
accepts (Accepts new) = true
accepts _ = false

-- newly accepted: neither refused nor a repeat
unfoldable pub is_new : State → Request → Bool
is_new s (request.Shared r) = not (is_some (shared_reason s.today (has_accounts s) r))
is_new s (request.Post name key p) = accepts (outcome_in s name key p)

-- the requests that were newly accepted
unfoldable pub accepted_from : State → List Request → List Request
accepted_from s [] = []
accepted_from s (r ∷ rs) = (if is_new s r then r ∷ [] else []) ++ accepted_from (step s r).0 rs
