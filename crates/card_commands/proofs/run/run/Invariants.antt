use Rattle.std.proofs.Common.{◌≤◌, ◌-◌, ◌^◌}
use Rattle.card_commands.specs.Feed.{new_run}
use Rattle.card_commands.specs.Outside.{outside}
use Rattle.card_commands.specs.Ran.{Ran}
use Rattle.card_commands.proofs.run.run.Given as goal

abbrev pub invariant-loop-total : goal.invariant-loop-total
invariant-loop-total g l =
    let at = outside g.I.Source.left g.I.Source.faults g.O.Sink.taken g.O.Sink.faults g.K.Keeper.rows g.K.Keeper.faults in
    record {
      ran : Ran (at l.initial.input l.initial.output l.initial.keeper) (at l.input l.output l.keeper) (new_run l.initial.progress.ledger) l.progress l.total;
      limit : l.total ≤ 2 ^ 36;
    }

abbrev pub decreases-loop-total : goal.decreases-loop-total
decreases-loop-total g l = 2 ^ 36 - l.total
