use Rattle.card_commands.specs.Attended.{parties}
use Rattle.card_commands.proofs.ServerLemmas.{unmade}
use Rattle.card_commands.proofs.serve.serve.Goals as goal

-- memory was wanted for the routes
pub returns-in-Err : goal.returns-in-Err
returns-in-Err g c =
    let at = parties g.O.Sink.taken g.O.Sink.faults g.K.Keeper.rows g.K.Keeper.faults g.D.Door.visits g.D.Door.faults in
    unmade c.args.port c.args.count c.args.desk.now.state (at c.args.output.now c.args.keeper.now c.args.door.now) c.requires.fits
