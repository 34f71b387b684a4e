use Rattle.std.proofs.Common.{◌≡◌, drop}
use Rattle.card_reasons.proofs.NoticeLemmas.{pending_with}
use Rattle.std.proofs.Common.{None}
use Rattle.card_reasons.proofs.notice.pending_day.Given as goal

abbrev pub invariant-loop-i : goal.invariant-loop-i
invariant-loop-i l = pending_with l.category l.day None l.posts.history ≡ pending_with l.category l.day l.pending (drop l.i l.posts.history)
