use Rattle.std.proofs.Common.{◌≡◌, drop}
use Rattle.std.specs.List.{list_any}
use Rattle.card_disputes.specs.Increases.{is_increase_by}
use Rattle.card_disputes.proofs.increase.has_increase_by.Given as goal

abbrev pub invariant-loop-i : goal.invariant-loop-i
invariant-loop-i l = list_any (is_increase_by l.day) l.posts.history ≡ list_any (is_increase_by l.day) (drop l.i l.posts.history)
