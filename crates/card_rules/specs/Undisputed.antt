-- What is in dispute when a cycle closes isn't asked for (12 CFR 1026.13(d)(1)), in the book of every day, for all lists of posts.
-- Amounts are cents.
use Rattle.std.specs.Prelude.{ℕ, ◌+◌, ◌≡◌, ◌≤◌, ◌<◌, true, List, Some}
use Rattle.std.specs.List.{Contains}
use Rattle.card_events.specs.History.{anchor_of, corrected}
use Rattle.card_events.specs.Range.{last_request_day}
use Rattle.card_events.specs.SharedRows.{SharedRows}
use Rattle.card_events.specs.declared.kept.Kept.{Kept}
use Rattle.card_model.specs.Closing.{net_balance}
use Rattle.card_model.specs.CycleDays.{IsOpening}
use Rattle.card_model.specs.Cycles.{Cycle, IssuedRow}
use Rattle.card_model.specs.Entries.{at_least_zero}
use Rattle.card_model.specs.Fees.{is_fee_kind}
use Rattle.card_model.specs.Folds.{book, cycle_at}
use Rattle.card_model.specs.Payments.{counted}
use Rattle.card_model.specs.declared.fee.Fee.{Fee}
use Rattle.card_model.specs.declared.fee.FeeKind.TheVariants as fee

-- what is owed at the end of a day without what is held, 0 where that is below 0
abbrev pub undisputed : List Kept → List IssuedRow → SharedRows → ℕ → ℕ
undisputed history issued shared day = at_least_zero (net_balance (book history issued shared day).entries)

-- a closed cycle asks for no more than the undisputed balance of its closing, by the due date and to keep the grace period
pub record AsksForTheRest (history : List Kept) (issued : List IssuedRow) (shared : SharedRows) (c : Cycle) : Type 0 where
  pub minimum : c.minimum ≤ undisputed history issued shared c.closing
  pub grace : c.grace_amount ≤ undisputed history issued shared c.closing

pub record DisputedIsNotAsked : Type 0 where
  pub cycles :
      (history : List Kept) (issued : List IssuedRow) (shared : SharedRows) (day k : ℕ) (c : Cycle)
      → IsOpening (anchor_of history) → day ≤ last_request_day → cycle_at k (book history issued shared day).cycles ≡ Some c
      → AsksForTheRest history issued shared c
  -- so the disputed amount alone brings no late fee: payments fell short of the undisputed balance
  pub late :
      (history : List Kept) (issued : List IssuedRow) (shared : SharedRows) (day : ℕ) (f : Fee)
      → IsOpening (anchor_of history) → day ≤ last_request_day → Contains (book history issued shared day).fees f
      → is_fee_kind fee.Late f.kind ≡ true
      → (c : Cycle) × Contains (book history issued shared day).cycles c × (c.number ≡ f.due_cycle)
      × (counted (corrected (anchor_of history) shared.holidays history) (c.closing + 1) c.due < undisputed history issued shared c.closing)
