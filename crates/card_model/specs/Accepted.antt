-- What holds of the lists of every account that the machine has accepted.
use Rattle.std.specs.Prelude.{ℕ, ◌+◌, ◌≡◌, ◌≤◌, length, max, is_some, true, List, Some}
use Rattle.std.specs.List.{All, count_by}
use Rattle.card_events.specs.History.{adds_segment, anchor_of, is_variable, terms_of}
use Rattle.card_events.specs.Limits.{post_limit}
use Rattle.card_events.specs.SharedRows.{FeeRow, IndexRow, shared_rows}
use Rattle.card_events.specs.declared.kept.Kept.{Kept}
use Rattle.card_events.specs.declared.post.Post.{Post}
use Rattle.card_events.specs.declared.post.Post.TheVariants as post
use Rattle.card_events.specs.declared.post.Terms.{Terms}
use Rattle.card_events.specs.declared.request.Request.{Request}
use Rattle.card_events.specs.Money.{rate_limit}
use Rattle.card_model.specs.Caps.{row_for}
use Rattle.card_model.specs.Cycles.{IssuedRow}
use Rattle.card_model.specs.Deadlines.{resolves}
use Rattle.card_model.specs.Machine.{NamedAccount, State, run}
use Rattle.card_model.specs.Rates.{index_on}
use Rattle.card_model.specs.Refusals.{Lists}

-- the cents of a post, 0 for kinds without cents
abbrev pub posted_cents : Post → ℕ
posted_cents (post.Charge _ _ cents) = cents
posted_cents (post.Credit _ _ cents) = cents
posted_cents (post.Payment _ _ _ cents) = cents
posted_cents (post.Dispute _ _ cents) = cents
posted_cents (post.Resolve _ _ cents) = cents
posted_cents (post.Refund cents) = cents
posted_cents (post.Amend _ _ cents) = cents
posted_cents _ = 0

-- the greatest rate in a post, in basis points, 0 for kinds without rates
abbrev pub posted_rate : Post → ℕ
posted_rate (post.Open _ terms) = max (max terms.purchase terms.cash) (max terms.transfer terms.penalty)
posted_rate (post.OpenVariable _ terms) = max (max terms.purchase terms.cash) (max terms.transfer terms.penalty)
posted_rate (post.Plan _ _ rate _ after) = max rate after
posted_rate (post.Notice _ _ rate _) = rate
posted_rate (post.Lower _ _ rate) = rate
posted_rate _ = 0

-- the numbers of an account, rates apart, are within their ranges
pub record AreInRange (terms : Terms) : Type 0 where
  pub first_close_day : 1 ≤ terms.close
  pub last_close_day : terms.close ≤ 28
  pub floor : terms.floor ≤ 1000000
  pub pct : terms.pct ≤ 10000

-- no Dispute is resolved twice
abbrev pub AreResolvedOnce : List Kept → Type 0
AreResolvedOnce posts = (n : ℕ) → count_by (λ k. resolves n k.post) posts ≤ 1

-- no cycle has two rows: each is the one that is found for its cycle
abbrev pub AreSingle : List IssuedRow → Type 0
AreSingle issued = All (λ r. row_for r.cycle issued ≡ Some r) issued

-- at most 10^9 cents
abbrev pub HasFewCents : Kept → Type 0
HasFewCents k = posted_cents k.post ≤ 1000000000

-- no rate above 9,999 basis points
abbrev pub HasFewRates : Kept → Type 0
HasFewRates k = posted_rate k.post ≤ rate_limit

-- the lists of an account
pub record AreAccepted (lists : Lists) : Type 0 where
  pub count : length lists.posts ≤ post_limit
  pub terms : AreInRange (terms_of lists.posts)
  pub cents : All HasFewCents lists.posts
  pub rates : All HasFewRates lists.posts
  pub resolved : AreResolvedOnce lists.posts
  pub single : AreSingle lists.issued

-- at most 64 segments: five from the opening on, and one for each Plan and Notice
abbrev pub HasFewSegments : List Kept → Type 0
HasFewSegments history = 5 + count_by (λ k. adds_segment k.post) history ≤ 64

-- fees of at most 100,000 cents
abbrev pub HasFewFees : FeeRow → Type 0
HasFewFees r = (r.first ≤ 100000) × (r.repeat ≤ 100000)

-- the index has a row on the opening day of a variable account, or before it
abbrev pub HasAnIndex : List IndexRow → Lists → Type 0
HasAnIndex rows l = is_variable l.posts ≡ true → is_some (index_on rows (anchor_of l.posts).opened) ≡ true

-- after every list of requests, in every account
pub record IsAccepted (s : State) : Type 0 where
  pub accounts : All (λ (x : NamedAccount). AreAccepted x.lists) s.accounts
  pub fees : All HasFewFees (shared_rows s.shared).fees
  pub indexed : All (λ (x : NamedAccount). HasAnIndex (shared_rows s.shared).index x.lists) s.accounts

-- every run leaves such a state
abbrev pub RunsAreAccepted : Type 0
RunsAreAccepted = (requests : List Request) → IsAccepted (run requests)
