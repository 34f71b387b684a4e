use Rattle.std.proofs.Common.{◌≡◌, List, ◌++◌, take}
use Rattle.std.specs.List.{filter_map}
use Rattle.card_model.specs.declared.entry.Entry.{Entry}
use Rattle.card_statement.specs.Lines.{kept_rate_line}
use Rattle.card_statement.specs.Standing.{LeaveBalances}
use Rattle.card_statement.proofs.rate.lines_of.Given as goal

abbrev pub invariant-loop-g : goal.invariant-loop-g
invariant-loop-g l =
    (earlier : List Entry) → LeaveBalances l.cycle.first earlier l.entries l.segments.balances → l.lines.items ≡ filter_map (kept_rate_line l.index l.rates l.cycle (earlier ++ l.entries)) (take l.g-index l.rated)
