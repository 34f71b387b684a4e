use Rattle.std.proofs.Common.{◌≡◌, ◌≤◌}
use Rattle.std.specs.List.{All}
use Rattle.card_model.specs.Allocation.{Ascends, pay}
use Rattle.card_segments.specs.Rules.{rule_of}
use Rattle.card_segments.proofs.Turn.{Roomy, at}
use Rattle.card_segments.proofs.pay.pay_by.Given as goal

abbrev pub invariant-loop-left : goal.invariant-loop-left
invariant-loop-left l = record {
  paid : pay (rule_of l.rule) l.left (at l.holdings l.credit) ≡ pay (rule_of l.fn.rule) l.fn.amount (at l.fn.holdings l.fn.credit);
  ascending : Ascends 0 l.holdings;
  room : All Roomy l.holdings;
  few : l.left ≤ l.fn.amount;
}

abbrev pub decreases-loop-left : goal.decreases-loop-left
decreases-loop-left l = l.left
