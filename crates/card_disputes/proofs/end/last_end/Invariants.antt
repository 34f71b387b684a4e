use Rattle.std.proofs.Common.{◌≡◌, drop, false}
use Rattle.std.specs.List.{list_any}
use Rattle.card_disputes.specs.Ends.{ends}
use Rattle.card_disputes.proofs.end.last_end.Given as goal

abbrev pub invariant-loop-i : goal.invariant-loop-i
invariant-loop-i l = list_any (λ k. ends l.end k.post) (drop l.i l.posts.history) ≡ false
