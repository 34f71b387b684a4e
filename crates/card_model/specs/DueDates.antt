-- The day after a due date: the late fee (12 CFR 1026.52(b)(1)(ii)), and the end of a penalty rate (12 CFR 1026.55(b)(4)(ii)).
use Rattle.std.specs.Prelude.{ℕ, ◌+◌, Bool, ◌&&◌, not, ◌==◌, nat_lt, if◌then◌else◌, is_some, length, map, List, Option, Some, None}
use Rattle.std.specs.List.{filter, list_all}
use Rattle.card_model.specs.Books.{Account, Book, with_penalties}
use Rattle.card_model.specs.Cycles.{Cycle, IssuedRow, Seen}
use Rattle.card_model.specs.Fees.{late_fee, with_fee}
use Rattle.card_model.specs.Payments.{met}
use Rattle.card_model.specs.declared.segment.Interval.{Interval}

-- the cycles whose due dates lie after a day
abbrev pub due_after_day : ℕ → List Cycle → List Cycle
due_after_day day cycles = filter (λ c. nat_lt day c.due) cycles

-- a penalty without an end, with six due dates after its beginning
abbrev pub awaits_end : List Cycle → Interval → Bool
awaits_end cycles i = not (is_some i.last) && (length (due_after_day i.begins cycles) == 6)

-- it has this due date, the sixth, for its last day where all six were met
abbrev pub cured_by : Seen → List Cycle → ℕ → Interval → Interval
cured_by seen cycles due i =
    if awaits_end cycles i && list_all (met seen) (due_after_day i.begins cycles) then record { begins = i.begins; last = Some due } else i

-- the late fee is charged, and penalties end
abbrev pub after_due_date : Option IssuedRow → Account → Seen → Book → Cycle → Book
after_due_date issued a seen b c =
    with_penalties (map (cured_by seen b.cycles c.due) b.penalties) (with_fee a seen 0 (late_fee issued seen b c) b)

-- where today is the day after the last cycle's due date
unfoldable pub on_due : Option IssuedRow → Account → Seen → Book → Option Cycle → Book
on_due issued a seen b None = b
on_due issued a seen b (Some c) =
    let later = after_due_date issued a seen b c in
    if seen.day == c.due + 1 then later else b
