-- One account, `a`, on which the worked values stand: its requests, and what they come to.
use Rattle.std.specs.Prelude.{ℕ, ◌+◌, ◌==◌, map, List, [], ◌∷◌, Option, Some, None, ℤ}
use Rattle.std.specs.List.{filter, filter_map, find}
use Rattle.std.specs.Option.{option_map}
use Rattle.card_events.specs.Civil.{day_at}
use Rattle.card_events.specs.declared.anchor.Channel.TheVariants.{Online}
use Rattle.card_events.specs.SharedRows.{shared_rows}
use Rattle.card_events.specs.declared.post.Place.{Place}
use Rattle.card_events.specs.declared.post.Post.{Post}
use Rattle.card_events.specs.declared.post.Post.TheVariants as post
use Rattle.card_events.specs.declared.post.Terms.{Terms}
use Rattle.card_events.specs.declared.request.Request.{Request}
use Rattle.card_events.specs.declared.request.Request.TheVariants as request
use Rattle.card_events.specs.declared.request.Shared.TheVariants as shared
use Rattle.card_model.specs.Books.{Book, account_of, empty_book, rate_in}
use Rattle.card_model.specs.Cycles.{Amounts, Cycle, seen_on}
use Rattle.card_model.specs.Entries.{balance, owed}
use Rattle.card_model.specs.Folds.{book, cycle_at}
use Rattle.card_model.specs.Books.{all_segments}
use Rattle.card_model.specs.Machine.{State, lists_of, run}
use Rattle.card_model.specs.Refusals.{Lists}
use Rattle.card_model.specs.declared.fee.Fee.{Fee}
use Rattle.card_events.specs.History.{anchor_of}

-- ---- requests
-- cycles close on each 5th. Purchases bear 19.99%, cash 24.99%, transfers 21.99%, and the penalty rate is 29.99%. The
-- minimum payment is 1% with interest and fees, and at least this floor in cents
abbrev pub terms_with : ℕ → Terms
terms_with floor = record { close = 5; purchase = 1999; cash = 2499; transfer = 2199; penalty = 2999; floor = floor; pct = 100 }

-- today is this date from now on
abbrev pub roll : ℕ → ℕ → ℕ → Request
roll y m d = request.Shared (shared.Roll (day_at y m d))

-- penalty fees from 2011-01-02 on: the first, and a repeated one
abbrev pub fee_row : ℕ → ℕ → Request
fee_row first repeat = request.Shared (shared.FeeRow (day_at 2011 1 2) first repeat)

-- the account's name
abbrev pub name : List ℕ
name = 97 ∷ []

-- post n of the account, under a key of its own
abbrev pub to_a : ℕ → Post → Request
to_a n p = request.Post name (n ∷ []) p

-- the account is opened on 2024-01-06, with this floor
abbrev pub open_a : ℕ → Request
open_a floor = to_a 1 (post.Open (day_at 2024 1 6) (terms_with floor))

-- a charge of 2024-01-10
abbrev pub charge_jan10 : ℕ → Place → ℕ → Request
charge_jan10 n place cents = to_a n (post.Charge (day_at 2024 1 10) place cents)

-- a payment over the internet, at ten in the morning
abbrev pub pay_online : ℕ → ℕ → ℕ → Request
pay_online n day cents = to_a n (post.Payment day 600 Online cents)

-- a statement of the 5th of this month of 2024, issued on the 6th and paid with these cents on the 10th: posts n and n + 1
abbrev pub issued_and_paid : ℕ → ℕ → ℕ → ℕ → List Request
issued_and_paid n k month cents =
    roll 2024 month 6 ∷ to_a n (post.Bill k) ∷ roll 2024 month 10 ∷ pay_online (n + 1) (day_at 2024 month 10) cents ∷ []

-- ---- what they come to
-- the book of an account at the end of today, of its lists
abbrev pub book_with : State → Option Lists → Book
book_with s None = empty_book
book_with s (Some l) = book l.posts l.issued (shared_rows s.shared) s.today

-- the account's book at the end of today
abbrev pub book_of : List Request → Book
book_of requests = book_with (run requests) (lists_of name (run requests).accounts)

-- what is owed
abbrev pub owed_after : List Request → ℤ
owed_after requests = owed (book_of requests).entries

-- the balance of a segment
abbrev pub balance_after : List Request → ℕ → ℤ
balance_after requests s = balance s (book_of requests).entries

-- the closed cycle of a number
abbrev pub cycle_after : List Request → ℕ → Option Cycle
cycle_after requests k = cycle_at k (book_of requests).cycles

-- the interest of a cycle, by segment
abbrev pub interest_after : List Request → ℕ → Option Amounts
interest_after requests k = option_map (λ c. c.interest) (cycle_after requests k)

-- the minimum payment of a cycle
abbrev pub minimum_after : List Request → ℕ → Option ℕ
minimum_after requests k = option_map (λ c. c.minimum) (cycle_after requests k)

-- the grace amount of a cycle
abbrev pub grace_amount_after : List Request → ℕ → Option ℕ
grace_amount_after requests k = option_map (λ c. c.grace_amount) (cycle_after requests k)

-- the penalty fees charged so far: each with its day, its cents, and whether it is at the repeat amount
abbrev pub fees_after : List Request → List Fee
fees_after requests = (book_of requests).fees

-- all entries: segments and cents
abbrev pub entries_after : List Request → List (ℕ × ℤ)
entries_after requests = map (λ e. (e.segment, e.cents)) (book_of requests).entries

-- the entries of a post: segments and cents
abbrev pub parts_after : List Request → ℕ → List (ℕ × ℤ)
parts_after requests n = map (λ e. (e.segment, e.cents)) (filter (λ e. e.post == n) (book_of requests).entries)

-- the rates of a segment on these days, of an account's lists and book
abbrev pub rates_with : State → Option Lists → Book → ℕ → List ℕ → List ℕ
rates_with s None b id days = []
rates_with s (Some l) b id days =
    let seen = seen_on (anchor_of l.posts) (shared_rows s.shared) l.posts l.issued s.today in
    let segment = find (λ g. g.id == id) (all_segments (account_of l.posts) seen) in
    filter_map (λ day. option_map (rate_in (account_of l.posts) seen b day) segment) days

-- the rates of a segment on these days, as today's book has them
abbrev pub rates_after : List Request → ℕ → List ℕ → List ℕ
rates_after requests id days = rates_with (run requests) (lists_of name (run requests).accounts) (book_of requests) id days
