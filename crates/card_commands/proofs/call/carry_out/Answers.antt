use Rattle.std.proofs.Common.{Some, refl, sym, subst}
use Rattle.card_words.specs.declared.command.Command.{Command}
use Rattle.card_commands.specs.World.{Comes, world}
use Rattle.card_ports.specs.Written.{sink_side}
use Rattle.card_commands.proofs.LoadedLemmas.{demo_outcome, export_outcome, repay_outcome, restate_outcome, statement_outcome, work_outcome}
use Rattle.card_commands.proofs.WorldLemmas.{server_comes, without_door}
use Rattle.card_commands.proofs.call.carry_out.Goals as goal

pub returns-in-Apply : goal.returns-in-Apply
returns-in-Apply g c =
    let at = world g.I.Source.left g.I.Source.faults g.O.Sink.taken g.O.Sink.faults g.K.Keeper.rows g.K.Keeper.faults g.D.Door.visits g.D.Door.faults in
    let old = at c.args.input.now c.args.output.now c.args.keeper.now c.args.door.now in
    let new = at c.apply_lines.new.input c.apply_lines.new.output c.apply_lines.new.keeper c.args.door.now in
    subst (λ (x : Command). Comes old new (Some x) c.apply_lines.result) (sym c.in-Apply.is) (without_door old new _ c.apply_lines.result refl c.apply_lines.ensures)

pub returns-in-Import : goal.returns-in-Import
returns-in-Import g c =
    let at = world g.I.Source.left g.I.Source.faults g.O.Sink.taken g.O.Sink.faults g.K.Keeper.rows g.K.Keeper.faults g.D.Door.visits g.D.Door.faults in
    let old = at c.args.input.now c.args.output.now c.args.keeper.now c.args.door.now in
    let new = at c.import_records.new.input c.import_records.new.output c.import_records.new.keeper c.args.door.now in
    subst (λ (x : Command). Comes old new (Some x) c.import_records.result) (sym c.in-Import.is) (without_door old new _ c.import_records.result refl c.import_records.ensures)

pub returns-in-Export : goal.returns-in-Export
returns-in-Export g c =
    let at = world g.I.Source.left g.I.Source.faults g.O.Sink.taken g.O.Sink.faults g.K.Keeper.rows g.K.Keeper.faults g.D.Door.visits g.D.Door.faults in
    let old = at c.args.input.now c.args.output.now c.args.keeper.now c.args.door.now in
    let new = at c.args.input.now c.tell.new.output c.tell.new.keeper c.args.door.now in
    subst (λ (x : Command). Comes old new (Some x) c.tell.result) (sym c.in-Export.is) (without_door old new _ c.tell.result refl (export_outcome _ _ c.in-Export.name c.tell.result refl refl c.tell.ensures))

pub returns-in-Work : goal.returns-in-Work
returns-in-Work g c =
    let at = world g.I.Source.left g.I.Source.faults g.O.Sink.taken g.O.Sink.faults g.K.Keeper.rows g.K.Keeper.faults g.D.Door.visits g.D.Door.faults in
    let old = at c.args.input.now c.args.output.now c.args.keeper.now c.args.door.now in
    let new = at c.args.input.now c.tell-in-Work.new.output c.tell-in-Work.new.keeper c.args.door.now in
    subst (λ (x : Command). Comes old new (Some x) c.tell-in-Work.result) (sym c.in-Work.is) (without_door old new _ c.tell-in-Work.result refl (work_outcome _ _ c.tell-in-Work.result refl refl c.tell-in-Work.ensures))

pub returns-in-Serve : goal.returns-in-Serve
returns-in-Serve g c =
    let at = world g.I.Source.left g.I.Source.faults g.O.Sink.taken g.O.Sink.faults g.K.Keeper.rows g.K.Keeper.faults g.D.Door.visits g.D.Door.faults in
    let old = at c.args.input.now c.args.output.now c.args.keeper.now c.args.door.now in
    let new = at c.args.input.now c.serve_ledger.new.output c.serve_ledger.new.keeper c.serve_ledger.new.door in
    subst (λ (x : Command). Comes old new (Some x) c.serve_ledger.result) (sym c.in-Serve.is) (server_comes old new c.in-Serve.port c.in-Serve.count c.serve_ledger.result refl refl c.serve_ledger.ensures)

pub returns-in-Demo : goal.returns-in-Demo
returns-in-Demo g c =
    let at = world g.I.Source.left g.I.Source.faults g.O.Sink.taken g.O.Sink.faults g.K.Keeper.rows g.K.Keeper.faults g.D.Door.visits g.D.Door.faults in
    let old = at c.args.input.now c.args.output.now c.args.keeper.now c.args.door.now in
    let new = at c.args.input.now c.demo.new.output c.args.keeper.now c.args.door.now in
    subst (λ (x : Command). Comes old new (Some x) c.demo.result) (sym c.in-Demo.is)
    (without_door old new _ c.demo.result refl (demo_outcome _ (sink_side g.O.Sink.taken g.O.Sink.faults c.demo.new.output) c.in-Demo.size c.demo.result c.demo.ensures))

pub returns-in-Statement : goal.returns-in-Statement
returns-in-Statement g c =
    let at = world g.I.Source.left g.I.Source.faults g.O.Sink.taken g.O.Sink.faults g.K.Keeper.rows g.K.Keeper.faults g.D.Door.visits g.D.Door.faults in
    let old = at c.args.input.now c.args.output.now c.args.keeper.now c.args.door.now in
    let new = at c.args.input.now c.tell-in-Statement.new.output c.tell-in-Statement.new.keeper c.args.door.now in
    subst (λ (x : Command). Comes old new (Some x) c.tell-in-Statement.result) (sym c.in-Statement.is)
    (without_door old new _ c.tell-in-Statement.result refl (statement_outcome _ _ c.in-Statement.name c.in-Statement.cycle c.tell-in-Statement.result refl refl c.tell-in-Statement.ensures))

pub returns-in-Restate : goal.returns-in-Restate
returns-in-Restate g c =
    let at = world g.I.Source.left g.I.Source.faults g.O.Sink.taken g.O.Sink.faults g.K.Keeper.rows g.K.Keeper.faults g.D.Door.visits g.D.Door.faults in
    let old = at c.args.input.now c.args.output.now c.args.keeper.now c.args.door.now in
    let new = at c.args.input.now c.tell-in-Restate.new.output c.tell-in-Restate.new.keeper c.args.door.now in
    subst (λ (x : Command). Comes old new (Some x) c.tell-in-Restate.result) (sym c.in-Restate.is)
    (without_door old new _ c.tell-in-Restate.result refl (restate_outcome _ _ c.in-Restate.name c.in-Restate.cycle c.tell-in-Restate.result refl refl c.tell-in-Restate.ensures))

pub returns-in-Repay : goal.returns-in-Repay
returns-in-Repay g c =
    let at = world g.I.Source.left g.I.Source.faults g.O.Sink.taken g.O.Sink.faults g.K.Keeper.rows g.K.Keeper.faults g.D.Door.visits g.D.Door.faults in
    let old = at c.args.input.now c.args.output.now c.args.keeper.now c.args.door.now in
    let new = at c.args.input.now c.tell_repayment.new.output c.tell_repayment.new.keeper c.args.door.now in
    subst (λ (x : Command). Comes old new (Some x) c.tell_repayment.result) (sym c.in-Repay.is)
    (without_door old new _ c.tell_repayment.result refl (repay_outcome _ _ c.in-Repay.name c.in-Repay.cycle c.tell_repayment.result refl refl c.tell_repayment.ensures))

pub returns-in-Trial : goal.returns-in-Trial
returns-in-Trial g c =
    let at = world g.I.Source.left g.I.Source.faults g.O.Sink.taken g.O.Sink.faults g.K.Keeper.rows g.K.Keeper.faults g.D.Door.visits g.D.Door.faults in
    let old = at c.args.input.now c.args.output.now c.args.keeper.now c.args.door.now in
    let new = at c.trial_lines.new.input c.trial_lines.new.output c.trial_lines.new.keeper c.args.door.now in
    subst (λ (x : Command). Comes old new (Some x) c.trial_lines.result) (sym c.in-Trial.is) (without_door old new _ c.trial_lines.result refl c.trial_lines.ensures)
