use Rattle.std.proofs.Common.{◌≡◌, ◌-◌, take}
use Rattle.card_closing.specs.Rows.{repaid_later}
use Rattle.card_closing.proofs.runs.lowered.Given as goal

abbrev pub invariant-loop-r : goal.invariant-loop-r
invariant-loop-r l = l.left ≡ l.balance - repaid_later (take l.r-index l.repaid) l.day l.due
