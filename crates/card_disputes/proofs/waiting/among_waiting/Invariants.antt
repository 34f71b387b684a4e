use Rattle.std.proofs.Common.{◌≡◌, take, None}
use Rattle.std.specs.List.{find}
use Rattle.card_disputes.specs.Waits.{does}
use Rattle.card_disputes.proofs.FirstWaiting.{passes_at}
use Rattle.card_disputes.proofs.waiting.among_waiting.Given as goal

abbrev pub invariant-loop-other : goal.invariant-loop-other
invariant-loop-other l = find (passes_at (does l.wait l.number) l.posts.history) (take l.other-index l.waiting) ≡ None
