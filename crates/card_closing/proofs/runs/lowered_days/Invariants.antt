use Rattle.std.proofs.Common.{◌≡◌, ◌-◌, ◌≤◌, ◌*◌}
use Rattle.std.specs.List.{sum_by}
use Rattle.card_model.specs.Limits.{balance_limit}
use Rattle.card_closing.specs.Rows.{DayRow, equal_days, repaid_later}
use Rattle.card_closing.proofs.runs.lowered_days.Given as goal

abbrev pub invariant-loop-day : goal.invariant-loop-day
invariant-loop-day l = record {
  from : l.first ≤ l.day;
  to : l.day ≤ l.end;
  summed : l.sum ≡ sum_by (λ (r : DayRow). r.balance - repaid_later l.repaid r.day l.due) (equal_days l.first (l.day - l.first) l.run.balance l.run.rate);
  small : l.sum ≤ (l.day - l.first) * balance_limit;
}

abbrev pub decreases-loop-day : goal.decreases-loop-day
decreases-loop-day l = l.end - l.day
