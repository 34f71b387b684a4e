use Rattle.std.proofs.Common.{◌≡◌}
use Rattle.card_demo.specs.Progress.{after}
use Rattle.card_demo.specs.Requests.{accounts_cycle}
use Rattle.card_demo.proofs.progress.Progress.pass_accounts.Given as goal

abbrev pub invariant-loop-i : goal.invariant-loop-i
invariant-loop-i l = l.self ≡ after l.initial.self (accounts_cycle l.t l.i l.initial.self.x)
