use Rattle.std.proofs.Common.{◌≡◌, ◌+◌, drop}
use Rattle.card_model.specs.Refusals.{bills, number_from}
use Rattle.card_reasons.proofs.search.bill_behind.Given as goal

abbrev pub invariant-loop-i : goal.invariant-loop-i
invariant-loop-i l = number_from (bills l.cycle) (l.first + 1) (drop l.first l.posts.history) ≡ number_from (bills l.cycle) (l.i + 1) (drop l.i l.posts.history)
