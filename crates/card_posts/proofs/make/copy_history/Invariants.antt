use Rattle.std.proofs.Common.{◌≡◌, take}
use Rattle.card_posts.proofs.make.copy_history.Given as goal

abbrev pub invariant-loop-i : goal.invariant-loop-i
invariant-loop-i l = l.copied.items ≡ take l.i l.history
