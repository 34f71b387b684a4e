use Rattle.std.proofs.Common.{◌≡◌, ◌+◌, ◌≤◌, take}
use Rattle.std.specs.List.{flat_map, sum_by}
use Rattle.card_account.specs.Accounts.{steps_of}
use Rattle.card_account.specs.Works.{tasks_of}
use Rattle.card_account.proofs.Telling.{AreToldTo}
use Rattle.card_account.proofs.tasks.tasks_of.Given as goal

abbrev pub invariant-loop-i : goal.invariant-loop-i
invariant-loop-i g l = record {
  tasks : l.tasks.items ≡ flat_map (tasks_of l.today l.shared) (take l.i l.fn.accounts);
  told : AreToldTo l.today l.shared l.i l.fn.accounts l.accounts;
  steps : l.steps ≤ l.fn.steps + sum_by (steps_of l.today l.shared) (take l.i l.fn.accounts);
}
