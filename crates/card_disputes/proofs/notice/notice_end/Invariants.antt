use Rattle.std.proofs.Common.{◌≡◌, drop}
use Rattle.std.specs.List.{find}
use Rattle.card_model.specs.Deadlines.{bills_from}
use Rattle.card_disputes.proofs.notice.notice_end.Given as goal

abbrev pub invariant-loop-i : goal.invariant-loop-i
invariant-loop-i l = find (λ k. bills_from l.cycle k.post) (drop l.charge l.posts.history) ≡ find (λ k. bills_from l.cycle k.post) (drop l.i l.posts.history)
