-- Closed cycles and issued statements (12 CFR 1026.5(b)(2), .7(b)). Days are day numbers, amounts cents.
use Rattle.std.specs.Prelude.{ℕ, ℤ, ◌==◌, Bool, nat_le, nat_lt, List, Option}
use Rattle.std.specs.List.{filter, find, last_or, sum_by}
use Rattle.std.specs.Prelude.{None, if◌then◌else◌}
use Rattle.card_events.specs.declared.anchor.Anchor.{Anchor}
use Rattle.card_events.specs.History.{CorrectedPost, folded}
use Rattle.card_events.specs.SharedRows.{FeeRow, IndexRow, SharedRows}
use Rattle.card_events.specs.declared.kept.Kept.{Kept}
use Rattle.card_model.specs.declared.fee.Fee.{Fee}
use Rattle.card_model.specs.declared.lines.DeferredLine.{DeferredLine}
use Rattle.card_model.specs.declared.lines.Move.{Move}
use Rattle.card_model.specs.declared.lines.RateLine.{RateLine}

-- amounts by segment, or by the cycle of a due date
abbrev pub Amounts : Type 0
Amounts = List (ℕ × ℕ)

-- the sum of the amounts of one key
abbrev pub amount_at : ℕ → Amounts → ℕ
amount_at key amounts = sum_by (λ x. if x.0 == key then x.1 else 0) amounts

-- the sum of all amounts
abbrev pub amounts_sum : Amounts → ℕ
amounts_sum amounts = sum_by (λ x. x.1) amounts

-- A closed cycle. `previous` and `new_balance` are what was owed at the closing before and at this one, `interest` and
-- `average` have no amounts of 0, and `entries` counts the account's entries at the end of the closing
pub record Cycle : Type 0 where
  pub number : ℕ
  pub first : ℕ
  pub closing : ℕ
  pub due : ℕ
  pub previous : ℤ
  pub new_balance : ℤ
  pub held : ℕ
  pub interest : Amounts
  pub average : Amounts
  pub fees : List Fee
  pub minimum : ℕ
  pub grace_amount : ℕ
  pub entries : ℕ

-- the last closed cycle
abbrev pub last_cycle : List Cycle → Option Cycle
last_cycle cycles = last_or None cycles

-- What a statement shows beside its cycle (12 CFR 1026.7(b)). `previous` is the new balance of the statement before,
-- `corrections` what changed in it since; `fees_year` and `interest_year` are the sums of the year to date; `closing`, `floor`
-- and `pct` aren't printed
pub record Sheet : Type 0 where
  pub due_payment : Bool
  pub previous : ℤ
  pub corrections : ℤ
  pub moves : List Move
  pub fees_year : ℤ
  pub interest_year : ℤ
  pub rates : List RateLine
  pub deferred : List DeferredLine
  pub late_up_to : ℤ
  pub penalty : ℕ
  pub closing : Amounts
  pub floor : ℤ
  pub pct : ℕ

-- a statement as it was issued: its cycle, the number of its Bill, its day, and the cycle's record and the sheet of that moment
pub record IssuedRow : Type 0 where
  pub cycle : ℕ
  pub bill : ℕ
  pub day : ℕ
  pub statement : Cycle
  pub sheet : Sheet

-- What the fold of a day may look at beside the book: the corrected posts, the fee rows and the index rows up to that day, and
-- the statements issued before it
pub record Seen : Type 0 where
  pub day : ℕ
  pub posts : List CorrectedPost
  pub fees : List FeeRow
  pub index : List IndexRow
  pub issued : List IssuedRow

-- what the fold of a day may look at, of a history, the shared rows and the issued rows
abbrev pub seen_on : Anchor → SharedRows → List Kept → List IssuedRow → ℕ → Seen
seen_on a shared history issued day =
    record {
      day = day;
      posts = filter (λ p. nat_le p.day day) (folded a shared.holidays history);
      fees = filter (λ r. nat_le r.day day) shared.fees;
      index = filter (λ r. nat_le r.day day) shared.index;
      issued = filter (λ r. nat_lt r.day day) issued;
    }

-- the posts of the day, by number
abbrev pub posts_on : Seen → List CorrectedPost
posts_on seen = filter (λ p. p.day == seen.day) seen.posts

-- the post with a number
abbrev pub post_at : ℕ → List CorrectedPost → Option CorrectedPost
post_at n posts = find (λ p. p.number == n) posts
