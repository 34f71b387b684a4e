use Rattle.std.proofs.Common.{refl, sym, subst}
use Rattle.card_commands.specs.Imported.{source_side, TookAllLeft}
use Rattle.card_commands.specs.Outside.{outside}
use Rattle.card_commands.proofs.ImportLemmas.{import_fell, import_unread}
use Rattle.card_commands.proofs.import.import.Goals as goal

pub returns-in-Err-clause-ran : goal.returns-in-Err-clause-ran
returns-in-Err-clause-ran g c =
    let at = outside g.I.Source.left g.I.Source.faults g.O.Sink.taken g.O.Sink.faults g.K.Keeper.rows g.K.Keeper.faults in
    (import_unread (at c.args.input.now c.args.output.now c.args.keeper.now) (at c.read_all.new.input c.args.output.now c.args.keeper.now) c.args.run.now.ledger c.in-Err.stop c.ended_by.result c.ended_by.ensures refl c.in-Err.ensures.err).ran

pub returns-clause-ran : goal.returns-clause-ran
returns-clause-ran g c =
    let at = outside g.I.Source.left g.I.Source.faults g.O.Sink.taken g.O.Sink.faults g.K.Keeper.rows g.K.Keeper.faults in
    let source = source_side g.I.Source.left g.I.Source.faults in
    let took = subst (TookAllLeft (source c.args.input.now) (source c.read_all.new.input)) (sym c.deref.ensures.value) c.in-Ok.ensures.ok in
    (import_fell (at c.args.input.now c.args.output.now c.args.keeper.now) (at c.read_all.new.input c.handle_records.new.output c.handle_records.new.keeper) c.args.run.now.ledger c.deref.result.now c.in-Err-handle_records.stop c.ended_by-in-Err-handle_records.result
    c.ended_by-in-Err-handle_records.ensures took c.in-Err-handle_records.ensures.err).ran
