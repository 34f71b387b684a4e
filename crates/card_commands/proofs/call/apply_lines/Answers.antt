use Rattle.std.proofs.Common.{refl, sym, ap, subst}
use Rattle.card_commands.specs.Feed.{Progress}
use Rattle.card_commands.specs.Outside.{outside}
use Rattle.card_commands.specs.Views.{GaveLedger}
use Rattle.card_commands.specs.Written.{sides}
use Rattle.card_words.specs.declared.command.Command.TheVariants as command
use Rattle.card_commands.proofs.EndLemmas.{runs_of}
use Rattle.card_commands.proofs.LoadedLemmas.{apply_outcome, unloaded_outcome}
use Rattle.card_commands.proofs.call.apply_lines.Goals as goal

pub returns-in-Ok : goal.returns-in-Ok
returns-in-Ok g c =
    let at = outside g.I.Source.left g.I.Source.faults g.O.Sink.taken g.O.Sink.faults g.K.Keeper.rows g.K.Keeper.faults in
    let side = sides g.O.Sink.taken g.O.Sink.faults g.K.Keeper.rows g.K.Keeper.faults in
    let gave = subst (GaveLedger (side c.args.output.now c.args.keeper.now) (side c.load.new.output c.load.new.keeper)) (sym (ap (λ (q : Progress). q.ledger) c.new-progress.ensures)) c.in-Ok.ensures.ok in
    apply_outcome (at c.args.input.now c.args.output.now c.args.keeper.now) (at c.run-ended.new.input c.run-ended.new.output c.run-ended.new.keeper) c.load.new.keeper (side c.load.new.output c.load.new.keeper) c.new-progress.result.ledger c.run-ended.result gave
    (record { ran = runs_of _ _ _ _ c.run-ended.result c.run-ended.ensures.ran; cause = c.run-ended.ensures.cause })

pub returns-in-Err : goal.returns-in-Err
returns-in-Err g c =
    let at = outside g.I.Source.left g.I.Source.faults g.O.Sink.taken g.O.Sink.faults g.K.Keeper.rows g.K.Keeper.faults in
    unloaded_outcome (at c.args.input.now c.args.output.now c.args.keeper.now) (at c.args.input.now c.load.new.output c.load.new.keeper) command.Apply c.in-Err.ended tt refl refl c.in-Err.ensures.err
