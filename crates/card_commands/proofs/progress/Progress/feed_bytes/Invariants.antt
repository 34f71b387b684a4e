use Rattle.std.proofs.Common.{◌≤◌, ◌-◌, length, take}
use Rattle.card_commands.specs.Ran.{Fed}
use Rattle.card_commands.specs.Written.{sides}
use Rattle.card_commands.proofs.progress.Progress.feed_bytes.Given as goal

abbrev pub invariant-loop-fed : goal.invariant-loop-fed
invariant-loop-fed g l =
    let at = sides g.O.Sink.taken g.O.Sink.faults g.K.Keeper.rows g.K.Keeper.faults in
    record {
      done : Fed (at l.initial.output l.initial.keeper) (at l.output l.keeper) l.initial.self (take l.fed l.bytes) l.self;
      within : l.fed ≤ length l.bytes;
    }

abbrev pub decreases-loop-fed : goal.decreases-loop-fed
decreases-loop-fed g l = length l.bytes - l.fed
