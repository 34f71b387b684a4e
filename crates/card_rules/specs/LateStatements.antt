-- A statement that comes too late costs no grace period (12 CFR 1026.5(b)(2)(ii)(B)), in the book of every day, for all lists of
-- posts. Days are day numbers, amounts cents.
use Rattle.std.specs.Prelude.{ℕ, ◌+◌, ◌≡◌, ◌≤◌, ◌<◌, true, List, Some}
use Rattle.std.specs.List.{All, Contains}
use Rattle.card_events.specs.History.{anchor_of, corrected}
use Rattle.card_events.specs.Range.{last_request_day}
use Rattle.card_events.specs.SharedRows.{SharedRows}
use Rattle.card_events.specs.declared.kept.Kept.{Kept}
use Rattle.card_model.specs.CycleDays.{IsOpening}
use Rattle.card_model.specs.Cycles.{Cycle, IssuedRow, amount_at}
use Rattle.card_model.specs.Folds.{book, cycle_at}
use Rattle.card_model.specs.Interest.{cycle_before}
use Rattle.card_model.specs.Segments.{SegmentTerms, is_sort}
use Rattle.card_model.specs.declared.segment.Sort.TheVariants as sort
use Rattle.card_rates.specs.Laws.{segments_on}
use Rattle.card_rules.specs.Grace.{was_paid_if_any}

-- no statement of a cycle came 21 days before its due date or earlier; perhaps none came
abbrev pub IsTooLate : List IssuedRow → Cycle → Type 0
IsTooLate issued c = All (λ (r : IssuedRow). r.cycle ≡ c.number → c.due < r.day + 21) issued

-- If the last statement came too late, or never, and the one before it was paid, purchases bear no interest in the cycle. It doesn't
-- matter what is paid on the last one
abbrev pub LateStatementsCostNoGrace : Type 0
LateStatementsCostNoGrace =
    (history : List Kept) (issued : List IssuedRow) (shared : SharedRows) (day k : ℕ) (c last : Cycle) (g : SegmentTerms)
    → IsOpening (anchor_of history) → day ≤ last_request_day → cycle_at k (book history issued shared day).cycles ≡ Some c
    → Contains (segments_on history issued shared c.closing) g → is_sort sort.Purchase g.sort ≡ true
    → cycle_before (book history issued shared c.closing).cycles c ≡ Some last → IsTooLate issued last
    → was_paid_if_any issued (corrected (anchor_of history) shared.holidays history) (cycle_before (book history issued shared c.closing).cycles last) ≡ true
    → amount_at g.id c.interest ≡ 0
