-- How large balances, rows and sums can be, from the limits on posts, cents, fees and days alone.
use Rattle.std.specs.Prelude.{ℕ, ◌+◌, ◌*◌, ◌==◌, ◌≡◌, ◌≤◌, ◌<◌, true, cond, length, List, ◌++◌, Option, pos, ◌≤ℤ◌, neg_ℤ, nat_abs}
use Rattle.std.specs.List.{All, Contains, filter, range_with_len, sum_by}
use Rattle.card_events.specs.Money.{daily, rate_limit}
use Rattle.card_events.specs.History.{CorrectedPost, anchor_of}
use Rattle.card_events.specs.SharedRows.{SharedRows}
use Rattle.card_events.specs.declared.kept.Kept.{Kept}
use Rattle.card_model.specs.Accepted.{AreResolvedOnce, HasFewCents, HasFewFees, HasFewRates, HasFewSegments}
use Rattle.card_model.specs.Books.{Book, account_of, all_segments, present_cycle, rate_in}
use Rattle.card_model.specs.Caps.{row_for}
use Rattle.card_model.specs.Closing.{Posting, post_interest}
use Rattle.card_model.specs.Cycles.{IssuedRow, Seen, amounts_sum, last_cycle, posts_on, seen_on}
use Rattle.card_model.specs.DueDates.{on_due}
use Rattle.card_model.specs.Effects.{after_posts}
use Rattle.card_model.specs.Entries.{balance, is_kind, owing}
use Rattle.card_model.specs.Folds.{book, book_after}
use Rattle.card_model.specs.Interest.{row}
use Rattle.card_model.specs.Laws.{total}
use Rattle.card_model.specs.Segments.{SegmentTerms}
use Rattle.card_model.specs.declared.entry.Entry.{Entry}
use Rattle.card_model.specs.declared.entry.EntryKind.TheVariants as kind

-- ---- limits
-- An account of at most so many posts, each within the range of cents, with fees within theirs, over at most 40,000 days
pub record IsLimited (posts : ℕ) (history : List Kept) (shared : SharedRows) (day : ℕ) : Type 0 where
  pub count : length history ≤ posts
  pub cents : All HasFewCents history
  pub fees : All HasFewFees shared.fees
  pub days : day ≤ (anchor_of history).opened + 39999

-- what so many posts move at most, interest apart: twice 10^9 cents and a fee each, and a late fee a day
abbrev pub most_moved : ℕ → ℕ
most_moved posts = posts * 2000100000 + 4000000000

-- and with the interest that stays within 10^13 cents a segment
abbrev pub most_owing : ℕ → ℕ
most_owing posts = 10000000000000 + most_moved posts

-- ---- what entries move
-- what an entry moves, interest apart
abbrev pub moves : Entry → ℕ
moves e = cond (is_kind kind.Interest e.kind) 0 (nat_abs e.cents)

-- what entries move together, interest apart
unfoldable pub moved : List Entry → ℕ
moved entries = sum_by moves entries

-- a balance lies within what was moved, and 10^13 cents of interest more
pub record IsBounded (entries : List Entry) (s : ℕ) : Type 0 where
  pub high : balance s entries ≤ℤ pos (10000000000000 + moved entries)
  pub low : neg_ℤ (pos (moved entries)) ≤ℤ balance s entries

-- so does the balance of every segment
abbrev pub AreBounded : List Entry → Type 0
AreBounded entries = (s : ℕ) → IsBounded entries s

-- in the book of every day
abbrev pub BalancesBounded : Type 0
BalancesBounded = (history : List Kept) (issued : List IssuedRow) (shared : SharedRows) (day : ℕ) → AreBounded (book history issued shared day).entries

-- ---- balances
-- every balance is below 10^15 cents in size
abbrev pub AreSmall : List Entry → Type 0
AreSmall entries = (s : ℕ) → (neg_ℤ (pos 999999999999999) ≤ℤ balance s entries) × (balance s entries ≤ℤ pos 999999999999999)

-- within the limits, in the book of every day
abbrev pub BalancesSmall : Type 0
BalancesSmall =
    (posts : ℕ) (history : List Kept) (issued : List IssuedRow) (shared : SharedRows) (day : ℕ) → IsLimited posts history shared day → posts ≤ 200000
    → AreSmall (book history issued shared day).entries

-- ---- at every point of a day
-- entries are bounded, and so much may still be moved
pub record HasRoom (posts left : ℕ) (entries : List Entry) : Type 0 where
  pub bounded : AreBounded entries
  pub moved : moved entries + left ≤ most_moved posts

-- the book of the n-th day after the due date and some of the day's posts
abbrev pub book_amid : List Kept → List IssuedRow → SharedRows → ℕ → List CorrectedPost → Book
book_amid history issued shared n done =
    let seen = seen_on (anchor_of history) shared history issued ((anchor_of history).opened + n) in
    let before = book_after issued (account_of history) (seen_on (anchor_of history) shared history issued) n in
    let row = row_for (present_cycle before) issued in
    after_posts row (account_of history) seen done (on_due row (account_of history) seen before (last_cycle before.cycles))

-- after each front of the posts of a day
abbrev pub PostsHaveRoom : Type 0
PostsHaveRoom =
    (posts : ℕ) (history : List Kept) (issued : List IssuedRow) (shared : SharedRows) (day n : ℕ) → IsLimited posts history shared day → (anchor_of history).opened + n ≤ day
    → (done rest : List CorrectedPost) → posts_on (seen_on (anchor_of history) shared history issued ((anchor_of history).opened + n)) ≡ done ++ rest
    → HasRoom posts 0 (book_amid history issued shared n done).entries

-- interest takes no room, to whichever segments it has come
abbrev pub InterestKeepsRoom : Type 0
InterestKeepsRoom =
    (row : Option IssuedRow) (seen : Seen) (amount : Book → SegmentTerms → ℕ) (gs : List SegmentTerms) (p : Posting) (posts left : ℕ)
    → HasRoom posts left p.book.entries → HasRoom posts left (post_interest row seen amount gs p).book.entries

-- with room left, every balance is small
abbrev pub RoomIsSmall : Type 0
RoomIsSmall = (posts left : ℕ) (entries : List Entry) → posts ≤ 200000 → HasRoom posts left entries → AreSmall entries

-- at every point of a day, posts and segments of a closing
pub record SmallAtEachStep : Type 0 where
  pub posts : PostsHaveRoom
  pub interest : InterestKeepsRoom
  pub small : RoomIsSmall

-- ---- rows and sums
-- the row of the n-th day, in the book of that day or of one j days later, is the balance after that day's posts
abbrev pub RowsOfPastDays : Type 0
RowsOfPastDays =
    (history : List Kept) (issued : List IssuedRow) (shared : SharedRows) (day n j s : ℕ) → (anchor_of history).opened + n + j ≡ day
    → row (book history issued shared day).entries s ((anchor_of history).opened + n)
    ≡ owing s (book_amid history issued shared n (posts_on (seen_on (anchor_of history) shared history issued ((anchor_of history).opened + n)))).entries

-- within the limits no row is above the greatest balance
abbrev pub RowsSmall : Type 0
RowsSmall =
    (posts : ℕ) (history : List Kept) (issued : List IssuedRow) (shared : SharedRows) (day n j : ℕ) → IsLimited posts history shared day → (anchor_of history).opened + n + j ≡ day
    → (s : ℕ) → row (book history issued shared day).entries s ((anchor_of history).opened + n) ≤ most_owing posts

-- the sum over n days of amounts that rows bound, each times a daily rate
abbrev pub rate_sum : (ℕ → ℕ) → (ℕ → ℕ) → ℕ → ℕ → ℕ
rate_sum amount rate first n = sum_by (λ x. amount x * daily (rate x)) (range_with_len first n)

-- the amounts of n days from the first are within the bound of rows, and rates are below 10,000 basis points
pub record IsRateSum (posts : ℕ) (amount rate : ℕ → ℕ) (first n : ℕ) : Type 0 where
  pub amounts : (x : ℕ) → first ≤ x → x < first + n → amount x ≤ most_owing posts
  pub rates : (x : ℕ) → rate x ≤ rate_limit

-- 2,739,452 billionths is the greatest daily rate
pub record SumsSmall : Type 0 where
  pub any : (posts : ℕ) (amount rate : ℕ → ℕ) (first n : ℕ) → IsRateSum posts amount rate first n → rate_sum amount rate first n ≤ n * (most_owing posts * 2739452)
  pub cycle : (posts : ℕ) (amount rate : ℕ → ℕ) (first n : ℕ) → IsRateSum posts amount rate first n → posts ≤ 200000 → n ≤ 31 → rate_sum amount rate first n ≤ 35000000000000000000000
  pub accrual : (posts : ℕ) (amount rate : ℕ → ℕ) (first n : ℕ) → IsRateSum posts amount rate first n → posts ≤ 200000 → n ≤ 40000 → rate_sum amount rate first n < 100000000000000000000000000

-- ---- Held
-- what a machine's run gives: cents and fees within their ranges, and no Dispute resolved twice
pub record IsOrderly (history : List Kept) (shared : SharedRows) : Type 0 where
  pub cents : All HasFewCents history
  pub fees : All HasFewFees shared.fees
  pub resolved : AreResolvedOnce history

-- on the lists that a desk accepts Held is never below 0, at the end of a day and after each front of a day's posts
pub record HeldIsNeverBelow : Type 0 where
  pub days : (history : List Kept) (issued : List IssuedRow) (shared : SharedRows) (day : ℕ) → IsOrderly history shared → pos 0 ≤ℤ balance 1 (book history issued shared day).entries
  pub posts :
      (history : List Kept) (issued : List IssuedRow) (shared : SharedRows) (n : ℕ) → IsOrderly history shared
      → (done rest : List CorrectedPost) → posts_on (seen_on (anchor_of history) shared history issued ((anchor_of history).opened + n)) ≡ done ++ rest
      → pos 0 ≤ℤ balance 1 (book_amid history issued shared n done).entries

-- ---- rates
-- where all posts' rates are within their range, no segment's rate of a day is above 9,999 basis points, nor a plan's own
pub record RatesSmall : Type 0 where
  pub days :
      (history : List Kept) (issued : List IssuedRow) (shared : SharedRows) (on day : ℕ) (b : Book) (g : SegmentTerms) → All HasFewRates history
      → Contains (all_segments (account_of history) (seen_on (anchor_of history) shared history issued on)) g
      → rate_in (account_of history) (seen_on (anchor_of history) shared history issued on) b day g ≤ rate_limit
  pub plans :
      (history : List Kept) (issued : List IssuedRow) (shared : SharedRows) (on : ℕ) → All HasFewRates history
      → All (λ g. g.rate ≤ rate_limit) (all_segments (account_of history) (seen_on (anchor_of history) shared history issued on))

-- ---- the interest of a cycle
-- the sum of the interest entries of a day
abbrev pub interest_on : ℕ → List Entry → ℕ
interest_on day entries = total kind.Interest (filter (λ e. e.day == day) entries)

-- a closed cycle's interest is the sum of the interest entries of its closing
abbrev pub CyclesHaveTheirInterest : Type 0
CyclesHaveTheirInterest =
    (history : List Kept) (issued : List IssuedRow) (shared : SharedRows) (day : ℕ)
    → All (λ c. amounts_sum c.interest ≡ interest_on c.closing (book history issued shared day).entries) (book history issued shared day).cycles

-- ---- the amounts of a cycle
-- the most interest of a closing: on each of 62 segments 10^13 cents for its rows, and as much for what was deferred
abbrev pub most_interest : ℕ
most_interest = 1_240_000_000_000_000

-- No closed cycle of an account of at most 64 segments has more, and what all entries move, interest apart, is within the limits
pub record AmountsSmall : Type 0 where
  pub interest :
      (history : List Kept) (issued : List IssuedRow) (shared : SharedRows) (day : ℕ) → HasFewSegments history
      → All (λ c. amounts_sum c.interest ≤ most_interest) (book history issued shared day).cycles
  pub moves :
      (posts : ℕ) (history : List Kept) (issued : List IssuedRow) (shared : SharedRows) (day : ℕ) → IsLimited posts history shared day
      → moved (book history issued shared day).entries ≤ most_moved posts

-- ---- the size of an entry
-- an entry is at most 10^15 cents in size
abbrev pub IsSmallEntry : Entry → Type 0
IsSmallEntry e = nat_abs e.cents ≤ 1_000_000_000_000_000

-- an entry of interest is at most 10^13 cents
abbrev pub IsLittleInterest : Entry → Type 0
IsLittleInterest e = is_kind kind.Interest e.kind ≡ true → nat_abs e.cents ≤ 10_000_000_000_000

-- No entry of interest has more, in the book of every day, whatever the posts; and within the limits no entry at all is above
-- 10^15 cents in size
pub record EntriesSmall : Type 0 where
  pub interest : (history : List Kept) (issued : List IssuedRow) (shared : SharedRows) (day : ℕ) → All IsLittleInterest (book history issued shared day).entries
  pub days :
      (posts : ℕ) (history : List Kept) (issued : List IssuedRow) (shared : SharedRows) (day : ℕ) → IsLimited posts history shared day → posts ≤ 200000
      → All IsSmallEntry (book history issued shared day).entries
