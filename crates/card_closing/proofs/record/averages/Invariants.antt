use Rattle.std.proofs.Common.{◌≡◌, ◌-◌, drop}
use Rattle.card_closing.specs.Interest.{amounts_of}
use Rattle.card_closing.specs.Record.{by_number, cycle_average}
use Rattle.card_closing.specs.Turns.{of_segment}
use Rattle.card_closing.proofs.record.averages.Given as goal

abbrev pub invariant-loop-id : goal.invariant-loop-id
invariant-loop-id l = l.amounts ≡ by_number (of_segment (amounts_of (cycle_average l.closing.purchase l.closing.closing) (drop 2 l.segments.segments) l.rows)) (l.id - 2)
