use Rattle.std.proofs.Common.{◌≡◌, ◌+◌, ◌≤◌, ◌*◌, take}
use Rattle.std.specs.List.{sum_by}
use Rattle.card_model.specs.Limits.{balance_limit}
use Rattle.card_events.specs.Money.{daily}
use Rattle.card_closing.specs.Rows.{DayRow, bearing}
use Rattle.card_closing.specs.Runs.{run_days, spread}
use Rattle.card_closing.proofs.runs.rate_sum.Given as goal

abbrev pub invariant-loop-run : goal.invariant-loop-run
invariant-loop-run l = record {
  at : l.day ≡ l.first + run_days (take l.run-index l.runs);
  summed : l.sum ≡ sum_by (λ (r : DayRow). bearing l.case l.repaid r * daily r.rate) (spread l.first (take l.run-index l.runs));
  small : l.sum ≤ run_days (take l.run-index l.runs) * 2739452 * balance_limit;
}
