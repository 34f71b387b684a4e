use Rattle.std.proofs.Common.{inl, inr, refl}
use Rattle.card_commands.specs.Written.{sides}
use Rattle.card_commands.proofs.ServerLemmas.{loaded_server}
use Rattle.card_commands.proofs.call.serve_ledger.Goals as goal

pub returns-in-Ok : goal.returns-in-Ok
returns-in-Ok g c =
    let side = sides g.O.Sink.taken g.O.Sink.faults g.K.Keeper.rows g.K.Keeper.faults in
    let s = c.in-Ok.desk.state in
    inr (record {
      ledger = s;
      loaded = c.in-Ok.ensures.ok.loaded;
      ran = loaded_server _ c.args.count s (side c.args.output.now c.args.keeper.now) (side c.load.new.output c.load.new.keeper) _ _ _ c.serve.result c.in-Ok.ensures.ok c.serve.ensures;
    })

pub returns-in-Err : goal.returns-in-Err
returns-in-Err g c = inl (refl, c.in-Err.ensures.err)
