-- The interest of a cycle, on any balance, counts no day before the cycle (12 CFR 1026.54(a)(1)(i)), in the book of every day, for all
-- lists of posts. Days are day numbers, amounts cents.
use Rattle.std.specs.Prelude.{ℕ, ◌≡◌, ◌≤◌, false, List, Some}
use Rattle.std.specs.List.{Contains}
use Rattle.card_events.specs.History.{anchor_of}
use Rattle.card_events.specs.Range.{last_request_day}
use Rattle.card_events.specs.SharedRows.{SharedRows}
use Rattle.card_events.specs.declared.kept.Kept.{Kept}
use Rattle.card_model.specs.CycleDays.{IsOpening}
use Rattle.card_model.specs.Cycles.{Cycle, IssuedRow, amount_at}
use Rattle.card_model.specs.Folds.{book, cycle_at}
use Rattle.card_model.specs.Interest.{ends_today}
use Rattle.card_model.specs.Segments.{SegmentTerms}
use Rattle.card_rates.specs.Laws.{seen_in, segments_on}
use Rattle.card_rules.specs.Grace.{balance_of, interest_on}

-- A closed cycle charges a segment of any kind no more than its days of that cycle bear: the balance of each day at its rate, added up
-- and rounded once. The exception is a deferred plan whose period ends with the closing
abbrev pub BearsItsOwnDaysAlone : Type 0
BearsItsOwnDaysAlone =
    (history : List Kept) (issued : List IssuedRow) (shared : SharedRows) (day k : ℕ) (c : Cycle) (g : SegmentTerms)
    → IsOpening (anchor_of history) → day ≤ last_request_day → cycle_at k (book history issued shared day).cycles ≡ Some c
    → Contains (segments_on history issued shared c.closing) g → ends_today (seen_in history issued shared c.closing) g ≡ false
    → amount_at g.id c.interest ≤ interest_on history issued shared c g (balance_of history issued shared c g)
