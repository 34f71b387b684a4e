use Rattle.std.proofs.Common.{◌≡◌, min, take}
use Rattle.std.specs.List.{reduce}
use Rattle.card_disputes.specs.Increases.{increases_by}
use Rattle.card_disputes.proofs.review.first_increase.Given as goal

abbrev pub invariant-loop-i : goal.invariant-loop-i
invariant-loop-i l = l.first ≡ reduce min (increases_by l.day (take l.i l.posts.history))
