use Rattle.std.proofs.Common.{refl}
use Rattle.card_commands.specs.Attended.{parties}
use Rattle.card_commands.proofs.ServerLemmas.{listened, listened_not}
use Rattle.card_commands.proofs.serve.listen_and_attend.Goals as goal

pub returns-in-Ok : goal.returns-in-Ok
returns-in-Ok g c =
    let at = parties g.O.Sink.taken g.O.Sink.faults g.K.Keeper.rows g.K.Keeper.faults g.D.Door.visits g.D.Door.faults in
    listened c.args.port c.args.count c.args.desk.now.state (at c.args.output.now c.args.keeper.now c.args.door.now) (at c.args.output.now c.args.keeper.now c.listen.new.self)
    (at c.attend_all.new.output c.attend_all.new.keeper c.attend_all.new.door) c.attend_all.result refl c.in-Ok.ensures.ok c.in-Ok.ensures.counts.unfailed c.attend_all.ensures

pub returns-in-Err : goal.returns-in-Err
returns-in-Err g c =
    let at = parties g.O.Sink.taken g.O.Sink.faults g.K.Keeper.rows g.K.Keeper.faults g.D.Door.visits g.D.Door.faults in
    listened_not c.args.port c.args.count c.args.desk.now.state (at c.args.output.now c.args.keeper.now c.args.door.now) (at c.args.output.now c.args.keeper.now c.listen.new.self) c.requires.fits refl c.in-Err.ensures.err c.in-Err.ensures.counts.cause
