use Rattle.std.proofs.Common.{◌-◌, ◌≤◌}
use Rattle.card_commands.specs.Attended.{parties}
use Rattle.card_commands.proofs.ServerLemmas.{HasAttended}
use Rattle.card_commands.proofs.serve.attend_all.Given as goal

abbrev pub invariant-loop-served : goal.invariant-loop-served
invariant-loop-served g l =
    let at = parties g.O.Sink.taken g.O.Sink.faults g.K.Keeper.rows g.K.Keeper.faults g.D.Door.visits g.D.Door.faults in
    record {
      attended : HasAttended (at l.initial.output l.initial.keeper l.initial.door) (at l.output l.keeper l.door) l.initial.desk.state l.desk.state l.served;
      few : l.served ≤ l.count;
    }

abbrev pub decreases-loop-served : goal.decreases-loop-served
decreases-loop-served g l = l.count - l.served
