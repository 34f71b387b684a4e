use Rattle.std.proofs.Common.{◌≡◌, drop}
use Rattle.card_model.specs.Payments.{sixty_days_late}
use Rattle.card_daily.specs.Given.{seen_in}
use Rattle.card_daily.proofs.penalties.is_sixty_days_late.Given as goal

abbrev pub invariant-loop-cycle : goal.invariant-loop-cycle
invariant-loop-cycle l = sixty_days_late (seen_in l.inputs l.day) l.cycles ≡ sixty_days_late (seen_in l.inputs l.day) (drop l.cycle-index l.cycles)
