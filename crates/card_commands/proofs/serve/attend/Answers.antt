use Rattle.std.proofs.Common.{refl, ◌∙◌}
use Rattle.card_http.specs.Exchanges.{moment}
use Rattle.card_ports.specs.Written.{sink_side}
use Rattle.card_commands.proofs.ServerLemmas.{attended_last, attended_told, came_none, is_out}
use Rattle.card_commands.proofs.serve.attend.Goals as goal

-- no connection came
pub returns-in-Err-clause-err : goal.returns-in-Err-clause-err
returns-in-Err-clause-err g c = (came_none _ _ c.args.desk.now.state refl c.in-Err.ensures.err, c.in-Err.ensures.counts.cause)

-- one is out, which may be closed
pub close-requires : goal.close-requires
close-requires g c = record { out = is_out _ _ _ c.in-Ok.ensures.ok }

-- its line was written
pub returns-in-Ok-write_all-clause-ok : goal.returns-in-Ok-write_all-clause-ok
returns-in-Ok-write_all-clause-ok g c =
    let at = moment g.D.Conn.Source.left g.D.Conn.Sink.taken g.D.Conn.Source.faults g.K.Keeper.rows g.K.Keeper.faults in
    let old = at c.in-Ok.link c.args.desk.now.state c.args.keeper.now in
    let new = at c.serve_one-served.new.link c.serve_one-served.new.desk.state c.serve_one-served.new.keeper in
    let side = sink_side g.O.Sink.taken g.O.Sink.faults in
    attended_told old new c.serve_one-served.result c.serve_one-served.ensures (side c.args.output.now) (side c.write_all.new.output) (g.D.Door.visits c.args.door.now) (g.D.Door.visits c.accept.new.self) (g.D.Door.visits c.close.new.self)
    (g.D.Door.faults c.args.door.now) (g.D.Door.faults c.close.new.self) c.as_bytes-line.result.now c.in-Ok.ensures.fresh c.in-Ok.ensures.ok c.close.ensures.closed (c.close.ensures.count ∙ c.in-Ok.ensures.counts.unfailed)
    (c.as_bytes-line.ensures.value ∙ c.line_of.ensures) c.in-Ok-write_all.ensures.ok

-- a front of it was written
pub returns-in-Err-write_all-clause-err : goal.returns-in-Err-write_all-clause-err
returns-in-Err-write_all-clause-err g c =
    let at = moment g.D.Conn.Source.left g.D.Conn.Sink.taken g.D.Conn.Source.faults g.K.Keeper.rows g.K.Keeper.faults in
    let old = at c.in-Ok.link c.args.desk.now.state c.args.keeper.now in
    let new = at c.serve_one-served.new.link c.serve_one-served.new.desk.state c.serve_one-served.new.keeper in
    let side = sink_side g.O.Sink.taken g.O.Sink.faults in
    attended_last old new c.serve_one-served.result c.serve_one-served.ensures c.in-Err-write_all.fault (side c.args.output.now) (side c.write_all.new.output) (g.D.Door.visits c.args.door.now) (g.D.Door.visits c.accept.new.self) (g.D.Door.visits c.close.new.self)
    (g.D.Door.faults c.args.door.now) (g.D.Door.faults c.close.new.self) c.as_bytes-line.result.now c.ended_by_sink.result c.in-Ok.ensures.fresh c.in-Ok.ensures.ok c.close.ensures.closed
    (c.close.ensures.count ∙ c.in-Ok.ensures.counts.unfailed) (c.as_bytes-line.ensures.value ∙ c.line_of.ensures) c.in-Err-write_all.ensures.err c.ended_by_sink.ensures
