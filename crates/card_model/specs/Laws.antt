-- Laws of the fold, for all lists of posts.
use Rattle.std.specs.Prelude.{ℕ, ◌+◌, ◌≡◌, ◌≤◌, nat_le, List, [], ◌∷◌, ◌++◌, cond, true, Some, pos, ◌+ℤ◌, ◌≤ℤ◌, nat_abs}
use Rattle.std.specs.List.{filter, All, sum_by}
use Rattle.card_events.specs.History.{CorrectedPost, anchor_of, folded, is_variable, standing, terms_of}
use Rattle.card_events.specs.SharedRows.{FeeRow, IndexRow, SharedRows}
use Rattle.card_events.specs.declared.kept.Kept.{Kept}
use Rattle.card_events.specs.declared.post.Post.TheVariants as post
use Rattle.card_model.specs.Books.{Book}
use Rattle.card_model.specs.Caps.{row_for}
use Rattle.card_model.specs.Cycles.{Cycle, IssuedRow, Sheet, amount_at}
use Rattle.card_model.specs.Entries.{balance, is_kind, owed, sum_of}
use Rattle.card_model.specs.Fees.{fee_cents, issued_fee}
use Rattle.card_model.specs.Folds.{book, rows_issued}
use Rattle.card_model.specs.declared.entry.Entry.{Entry}
use Rattle.card_model.specs.declared.entry.EntryKind.{EntryKind}
use Rattle.card_model.specs.declared.entry.EntryKind.TheVariants as kind
use Rattle.card_model.specs.declared.fee.Fee.{Fee}

-- ---- the past is enough
-- the posts that are folded up to a day, and the fee rows up to it
abbrev pub posts_up_to : ℕ → SharedRows → List Kept → List CorrectedPost
posts_up_to day shared history = filter (λ p. nat_le p.day day) (folded (anchor_of history) shared.holidays history)

-- the fee rows up to a day
abbrev pub fees_up_to : ℕ → SharedRows → List FeeRow
fees_up_to day shared = filter (λ r. nat_le r.day day) shared.fees

-- the index rows up to a day
abbrev pub index_up_to : ℕ → SharedRows → List IndexRow
index_up_to day shared = filter (λ r. nat_le r.day day) shared.index

-- Two histories of one account, each under its own shared rows, agree on all days up to one: in the index rows only where the
-- account's opening rates follow the index
pub record HistoriesAgree (day : ℕ) (shared other : SharedRows) (history later : List Kept) : Type 0 where
  pub anchor : anchor_of later ≡ anchor_of history
  pub terms : terms_of later ≡ terms_of history
  pub variable : is_variable later ≡ is_variable history
  pub posts : posts_up_to day other later ≡ posts_up_to day shared history
  pub fees : fees_up_to day other ≡ fees_up_to day shared
  pub index : is_variable history ≡ true → index_up_to day other ≡ index_up_to day shared

-- The book of a day depends on the corrected posts, the fee rows and, where the account's opening rates follow the index, the
-- index rows up to that day alone
abbrev pub PastIsEnough : Type 0
PastIsEnough =
    (day : ℕ) (shared other : SharedRows) (history later : List Kept) (issued : List IssuedRow) → HistoriesAgree day shared other history later
    → (x : ℕ) → x ≤ day → book later issued other x ≡ book history issued shared x

-- ---- what was issued is never passed
-- a cycle has at most what an issued row has
pub record IsCycleWithin (row : IssuedRow) (c : Cycle) : Type 0 where
  pub interest : All (λ x. x.1 ≤ amount_at x.0 row.statement.interest) c.interest
  pub minimum : c.minimum ≤ row.statement.minimum
  pub grace_amount : c.grace_amount ≤ row.statement.grace_amount

-- a fee is at most the issued one for its due date
abbrev pub IsFeeWithin : IssuedRow → Fee → Type 0
IsFeeWithin row f = fee_cents f ≤ issued_fee f.due_cycle row

-- the cycle of a row and the fees charged in it
pub record IsWithin (row : IssuedRow) (b : Book) : Type 0 where
  pub cycles : All (λ c. c.number ≡ row.cycle → IsCycleWithin row c) b.cycles
  pub fees : All (λ f. f.cycle ≡ row.cycle → IsFeeWithin row f) b.fees

-- in the book of every day, no cycle passes its issued row
abbrev pub IssuedCaps : Type 0
IssuedCaps =
    (history : List Kept) (issued : List IssuedRow) (shared : SharedRows) (day : ℕ) (row : IssuedRow) → row_for row.cycle issued ≡ Some row
    → IsWithin row (book history issued shared day)

-- ---- issuing
-- an accepted Bill
abbrev pub bill_of : ℕ → List ℕ → ℕ → ℕ → Kept
bill_of n key today cycle = record { number = n; key = key; accepted = today; post = post.Bill cycle }

-- a Bill accepted today, with the row that it adds, changes the book of no day up to today, whatever its sheet shows
abbrev pub IssuingChangesNoPastDay : Type 0
IssuingChangesNoPastDay =
    (history : List Kept) (issued : List IssuedRow) (shared : SharedRows) (n : ℕ) (key : List ℕ) (today cycle x : ℕ) (sheet : Cycle → Sheet) → x ≤ today
    → book (history ++ bill_of n key today cycle ∷ []) (issued ++ rows_issued cycle n today sheet (book history issued shared today)) shared x
    ≡ book history issued shared x

-- ---- corrections
-- an accepted Amend
abbrev pub amend_by : ℕ → List ℕ → ℕ → ℕ → ℕ × ℕ → Kept
amend_by n key accepted target to = record { number = n; key = key; accepted = accepted; post = post.Amend target to.0 to.1 }

-- a correction that the next post takes back leaves the book of every day as it was before both
abbrev pub CorrectionBack : Type 0
CorrectionBack =
    (history : List Kept) (issued : List IssuedRow) (shared : SharedRows) (n m : ℕ) (key other : List ℕ) (accepted later target : ℕ) (to before : ℕ × ℕ)
    → standing target history ≡ Some before
    → (day : ℕ) → book (history ++ amend_by n key accepted target to ∷ amend_by m other later target before ∷ []) issued shared day ≡ book history issued shared day

-- ---- the balance identity
-- the sum of the entries of a kind, in size
abbrev pub size_of : EntryKind → Entry → ℕ
size_of k e = cond (is_kind k e.kind) (nat_abs e.cents) 0

-- the sum of the entries of a kind, in size
unfoldable pub total : EntryKind → List Entry → ℕ
total k entries = sum_by (size_of k) entries

-- Owed, payments and credits are together charges, interest, fees, refunds and returned payments; holds sum to 0
pub record IsBalanced (entries : List Entry) : Type 0 where
  pub owed :
      owed entries +ℤ pos (total kind.Payment entries + total kind.Credit entries)
      ≡ pos (total kind.Charge entries + total kind.Interest entries + total kind.Fee entries + total kind.Refund entries + total kind.Return entries)
  pub holds : sum_of (λ e. is_kind kind.Hold e.kind) entries ≡ pos 0

-- in the book of every day
abbrev pub BalanceIdentity : Type 0
BalanceIdentity = (history : List Kept) (issued : List IssuedRow) (shared : SharedRows) (day : ℕ) → IsBalanced (book history issued shared day).entries

-- ---- signs
-- Credit is never above 0, and no segment but Held ever below
pub record SignsHold (entries : List Entry) : Type 0 where
  pub credit : balance 0 entries ≤ℤ pos 0
  pub owing : (s : ℕ) → 2 ≤ s → pos 0 ≤ℤ balance s entries

-- in the book of every day
abbrev pub Signs : Type 0
Signs = (history : List Kept) (issued : List IssuedRow) (shared : SharedRows) (day : ℕ) → SignsHold (book history issued shared day).entries
