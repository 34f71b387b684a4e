use Rattle.std.proofs.Common.{◌≡◌, drop, None}
use Rattle.std.specs.Prelude.{nat_lt}
use Rattle.card_model.specs.Cycles.{Cycle}
use Rattle.card_model.specs.Segments.{last_that}
use Rattle.card_daily.proofs.returns.closed_before.Given as goal

abbrev pub invariant-loop-place : goal.invariant-loop-place
invariant-loop-place l = last_that (λ (c : Cycle). nat_lt c.closing l.day) (drop l.place l.cycles) ≡ None
