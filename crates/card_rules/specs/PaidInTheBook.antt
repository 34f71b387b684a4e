-- Each cent of a payment is entered once (12 CFR 1026.10(a)), in the book of every day, for all lists of posts. Amounts are cents.
use Rattle.std.specs.Prelude.{ℕ, ◌≡◌, ◌≤◌, ◌&&◌, ◌==◌, if◌then◌else◌, List, pos, ◌+ℤ◌}
use Rattle.std.specs.List.{sum_by}
use Rattle.card_events.specs.History.{CorrectedPost, anchor_of, corrected}
use Rattle.card_events.specs.SharedRows.{SharedRows}
use Rattle.card_events.specs.declared.kept.Kept.{Kept}
use Rattle.card_model.specs.Cycles.{IssuedRow}
use Rattle.card_model.specs.Effects.{is_part_of}
use Rattle.card_model.specs.Entries.{sum_of}
use Rattle.card_model.specs.Folds.{book}
use Rattle.card_model.specs.Payments.{is_between, is_payment}

-- the corrected cents of the payment with a number, where it is credited from one day to another; else 0
abbrev pub paid_in : List CorrectedPost → ℕ → ℕ → ℕ → ℕ
paid_in posts n from to = sum_by (λ p. if is_payment p.post && (p.number == n) && is_between from to p then p.cents else 0) posts

-- From the day of its credit on, the entries of a payment add up to its cents below 0; until then it has none
abbrev pub PaymentsAreInTheBook : Type 0
PaymentsAreInTheBook =
    (history : List Kept) (issued : List IssuedRow) (shared : SharedRows) (day n : ℕ) → (anchor_of history).opened ≤ day
    → sum_of (is_part_of n) (book history issued shared day).entries
    +ℤ pos (paid_in (corrected (anchor_of history) shared.holidays history) n (anchor_of history).opened day) ≡ pos 0
