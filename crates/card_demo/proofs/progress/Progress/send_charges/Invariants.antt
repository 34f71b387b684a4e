use Rattle.std.proofs.Common.{◌≡◌}
use Rattle.card_demo.specs.Progress.{after}
use Rattle.card_demo.specs.Requests.{charges}
use Rattle.card_demo.proofs.progress.Progress.send_charges.Given as goal

abbrev pub invariant-loop-j : goal.invariant-loop-j
invariant-loop-j l = l.self ≡ after l.initial.self (charges l.t l.i l.j l.initial.self.x)
