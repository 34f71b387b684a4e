use Rattle.std.proofs.Common.{sym, subst}
use Rattle.std.specs.List.{All}
use Rattle.card_daily.proofs.Penalized.{closed-before}
use Rattle.card_daily.specs.Penalties.{IsClosed}
use Rattle.card_daily.proofs.penalties.begin_penalty.Goals as goal

pub is_sixty_days_late-requires : goal.is_sixty_days_late-requires
is_sixty_days_late-requires c =
    record { closed = subst (All (IsClosed c.args.inputs.now)) (sym c.requires.closed.cycles) (closed-before c.args.inputs.now c.args.day c.anchor-sound.ensures.sound c.requires.closed.dated.opened c.requires.closed.dated.last) }
