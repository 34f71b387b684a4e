use Rattle.std.proofs.Common.{◌≡◌, ◌≤◌, ◌*◌, ◌^◌, List, take}
use Rattle.std.specs.List.{sum_by}
use Rattle.card_model.specs.declared.entry.Entry.{Entry}
use Rattle.card_trial.specs.Sums.{AreSums, all_between}
use Rattle.card_trial.specs.declared.side.Side.{Side}
use Rattle.card_trial.proofs.sums.Sums.of_all_kinds.Given as goal

abbrev pub invariant-loop-i : goal.invariant-loop-i
invariant-loop-i l = record {
  sums : (side : Side) (lists : List (List Entry)) → AreSums side lists l.self → l.sum ≡ sum_by (λ k. all_between side l.from l.to k lists) (take l.i l.kinds);
  most : l.sum ≤ l.i * 2 ^ 120;
}
