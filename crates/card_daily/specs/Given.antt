-- What the fold of an account is given, and its books from day to day.
use Rattle.std.specs.Prelude.{ℕ, suc, ◌≡◌, ◌≤◌, ◌<◌, true, List, [], ◌∷◌, Option, Some}
use Rattle.std.specs.List.{All}
use Rattle.std.specs.List.Sorted.{IsNonDecreasingBy}
use Rattle.card_events.specs.Billing.{closing}
use Rattle.card_events.specs.Civil.{day_of_month}
use Rattle.card_events.specs.Range.{last_request_day}
use Rattle.card_events.specs.declared.anchor.Anchor.{Anchor}
use Rattle.card_events.specs.History.{CorrectedPost, anchor_of, at_number, corrected}
use Rattle.card_events.specs.SharedRows.{SharedRows}
use Rattle.card_events.specs.declared.kept.Kept.{Kept}
use Rattle.card_events.specs.declared.post.Post.{Post}
use Rattle.card_events.specs.declared.post.Post.TheVariants as post
use Rattle.card_fees.specs.Counting.{is_payment_at}
use Rattle.card_fees.specs.Tallied.{IsTallyOf}
use Rattle.card_fees.specs.declared.tally.Tally.{Tally}
use Rattle.card_model.specs.Accepted.{AreAccepted, HasFewFees, HasFewSegments}
use Rattle.card_model.specs.Books.{Account, Book, account_of, present_cycle}
use Rattle.card_model.specs.Caps.{row_for}
use Rattle.card_model.specs.CycleDays.{IsOpening}
use Rattle.card_model.specs.Cycles.{IssuedRow, Seen, seen_on}
use Rattle.card_model.specs.Folds.{book, book_after}
use Rattle.card_model.specs.Refusals.{IsBilledLater, Lists, Present, plan_days}
use Rattle.card_posts.specs.Posted.{last_accepted}
use Rattle.card_rates.specs.Segments.{ArePostsDated}

-- the accepted posts of an account, its issued statements, and what all accounts share
pub record Given : Type 0 where
  pub history : List Kept
  pub issued : List IssuedRow
  pub shared : SharedRows

-- ---- the days of the fold
-- the opening day
abbrev pub opened_in : Given → ℕ
opened_in g = (anchor_of g.history).opened

-- the account that is opened
abbrev pub account_in : Given → Account
account_in g = account_of g.history

-- what the fold of a day may look at
abbrev pub seen_in : Given → ℕ → Seen
seen_in g day = seen_on (anchor_of g.history) g.shared g.history g.issued day

-- the book after so many days from the opening day on
abbrev pub book_in : Given → ℕ → Book
book_in g n = book_after g.issued (account_in g) (seen_in g) n

-- the book at the end of a day
abbrev pub book_on : Given → ℕ → Book
book_on g day = book g.history g.issued g.shared day

-- the issued statement of the cycle that the book is in after so many days
abbrev pub row_in : Given → ℕ → Option IssuedRow
row_in g n = row_for (present_cycle (book_in g n)) g.issued

-- ---- what was counted
-- the corrected list of the account
abbrev pub posts_in : Given → List CorrectedPost
posts_in g = corrected (anchor_of g.history) g.shared.holidays g.history

-- what is kept of payments and credits is right, and has looked at no post after a day
abbrev pub Tallies : Given → ℕ → Tally → Type 0
Tallies g day t = IsTallyOf (posts_in g) day t

-- ---- what is asked of them
-- a day that may be folded: from the opening day on, and at most 2099-12-31
pub record IsDayOf (g : Given) (day : ℕ) : Type 0 where
  pub opened : opened_in g ≤ day
  pub last : day ≤ last_request_day

-- a plan's last day is a closing, from the opening day on
abbrev pub EndsWithAClosing : Anchor → Kept → Type 0
EndsWithAClosing a k = (first end : ℕ) → plan_days k.post ≡ Some (first, end) → (a.opened ≤ end) × (day_of_month end ≡ a.close_day)

-- so are those of all posts of an account
abbrev pub ArePlanned : List Kept → Type 0
ArePlanned history = All (EndsWithAClosing (anchor_of history)) history

-- where post n is a Return, an earlier post is the payment that it names
abbrev pub NamesAPayment : List Kept → ℕ → Post → Type 0
NamesAPayment history n (post.Return _ target) = (target < n) × (is_payment_at (at_number target history) ≡ true)
NamesAPayment history n _ = Unit {0}

-- so it is of each of these posts, the first of which is post n
unfoldable pub NamePayments : List Kept → ℕ → List Kept → Type 0
NamePayments history n [] = Unit {0}
NamePayments history n (k ∷ ks) = NamesAPayment history n k.post × NamePayments history (suc n) ks

-- posts were accepted, and statements issued, in the order of their days, and what issues a cycle came after its closing
pub record AreInTurn (l : Lists) : Type 0 where
  pub accepted : IsNonDecreasingBy (λ k. k.accepted) l.posts
  pub billed : All (IsBilledLater (anchor_of l.posts)) l.posts
  pub issued : IsNonDecreasingBy (λ r. r.day) l.issued
  pub later : All (λ r. closing (anchor_of l.posts) r.cycle < r.day) l.issued

-- What every run of the machine leaves in an account
pub record IsSound (g : Given) : Type 0 where
  pub accepted : AreAccepted (record { posts = g.history; issued = g.issued })
  pub fees : All HasFewFees g.shared.fees
  pub segments : HasFewSegments g.history
  pub dated : ArePostsDated g.history
  pub opening : IsOpening (anchor_of g.history)
  pub plans : ArePlanned g.history
  pub returns : NamePayments g.history 1 g.history
  pub in_turn : AreInTurn (record { posts = g.history; issued = g.issued })

-- ---- an account today
-- what the fold to today is given
abbrev pub given_today : Present → Given
given_today now = record { history = now.lists.posts; issued = now.lists.issued; shared = now.shared }

-- its fold goes to the end of today: no post was accepted later
pub record ReachesToday (now : Present) : Type 0 where
  pub opened : opened_in (given_today now) ≤ now.today
  pub accepted : last_accepted now.lists.posts ≤ now.today
  pub dated : now.today ≤ last_request_day
