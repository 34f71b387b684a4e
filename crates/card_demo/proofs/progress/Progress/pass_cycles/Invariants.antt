use Rattle.std.proofs.Common.{◌≡◌}
use Rattle.card_demo.specs.Progress.{after}
use Rattle.card_demo.specs.Requests.{cycles}
use Rattle.card_demo.proofs.progress.Progress.pass_cycles.Given as goal

abbrev pub invariant-loop-t : goal.invariant-loop-t
invariant-loop-t l = l.self ≡ after l.initial.self (cycles l.accounts l.t l.initial.self.x)
