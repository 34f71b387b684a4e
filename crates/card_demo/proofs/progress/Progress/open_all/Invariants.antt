use Rattle.std.proofs.Common.{◌≡◌}
use Rattle.card_demo.specs.Progress.{after}
use Rattle.card_demo.specs.Requests.{openings}
use Rattle.card_demo.proofs.progress.Progress.open_all.Given as goal

abbrev pub invariant-loop-i : goal.invariant-loop-i
invariant-loop-i l = l.self ≡ after l.initial.self (openings l.i l.initial.self.x)
