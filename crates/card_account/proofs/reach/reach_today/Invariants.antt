use Rattle.std.proofs.Common.{◌+◌, ◌≤◌, take}
use Rattle.std.specs.List.{sum_by}
use Rattle.card_account.specs.Accounts.{steps_of}
use Rattle.card_account.proofs.Telling.{AreToldTo}
use Rattle.card_account.proofs.reach.reach_today.Given as goal

abbrev pub invariant-loop-i : goal.invariant-loop-i
invariant-loop-i g l = record {
  told : AreToldTo l.today l.shared l.i l.fn.accounts l.accounts;
  steps : l.steps ≤ l.fn.steps + sum_by (steps_of l.today l.shared) (take l.i l.fn.accounts);
}
