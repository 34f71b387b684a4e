use Rattle.std.proofs.Common.{refl, sym, ap, subst}
use Rattle.card_commands.specs.Feed.{Run}
use Rattle.card_commands.specs.Outside.{outside}
use Rattle.card_commands.specs.Views.{GaveLedger}
use Rattle.card_commands.specs.Written.{sides}
use Rattle.card_words.specs.declared.command.Command.TheVariants as command
use Rattle.card_commands.proofs.LoadedLemmas.{import_outcome, unloaded_outcome}
use Rattle.card_commands.proofs.call.import_records.Goals as goal

pub returns-in-Ok : goal.returns-in-Ok
returns-in-Ok g c =
    let at = outside g.I.Source.left g.I.Source.faults g.O.Sink.taken g.O.Sink.faults g.K.Keeper.rows g.K.Keeper.faults in
    let side = sides g.O.Sink.taken g.O.Sink.faults g.K.Keeper.rows g.K.Keeper.faults in
    let gave = subst (GaveLedger (side c.args.output.now c.args.keeper.now) (side c.load.new.output c.load.new.keeper)) (sym (ap (λ (q : Run). q.ledger) c.new-run.ensures)) c.in-Ok.ensures.ok in
    import_outcome (at c.args.input.now c.args.output.now c.args.keeper.now) (at c.import-ended.new.input c.import-ended.new.output c.import-ended.new.keeper) c.load.new.keeper (side c.load.new.output c.load.new.keeper) c.new-run.result.ledger c.import-ended.result gave
    (record { ran = c.import-ended.ensures.ran; cause = c.import-ended.ensures.cause })

pub returns-in-Err : goal.returns-in-Err
returns-in-Err g c =
    let at = outside g.I.Source.left g.I.Source.faults g.O.Sink.taken g.O.Sink.faults g.K.Keeper.rows g.K.Keeper.faults in
    unloaded_outcome (at c.args.input.now c.args.output.now c.args.keeper.now) (at c.args.input.now c.load.new.output c.load.new.keeper) command.Import c.in-Err.ended tt refl refl c.in-Err.ensures.err
