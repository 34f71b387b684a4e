use Rattle.std.proofs.Common.{Some, None, sym, ◌∙◌}
use Rattle.std.specs.Prelude.{map}
use Rattle.std.specs.String.{string_bytes}
use Rattle.card_ports.specs.Written.{sink_side}
use Rattle.card_words.specs.Commands.{command_of}
use Rattle.card_commands.specs.World.{world}
use Rattle.card_commands.specs.declared.ended.Ended.TheVariants as ended
use Rattle.card_commands.proofs.WorldLemmas.{comes_of, usage_cut, usage_said, with_sink}
use Rattle.card_commands.proofs.call.carry_out_words.Goals as goal

-- the words are a command
pub returns-in-Some : goal.returns-in-Some
returns-in-Some g c =
    let at = world g.I.Source.left g.I.Source.faults g.O.Sink.taken g.O.Sink.faults g.K.Keeper.rows g.K.Keeper.faults g.D.Door.visits g.D.Door.faults in
    comes_of (at c.args.input.now c.args.output.now c.args.keeper.now c.args.door.now) (at c.carry_out.new.input c.carry_out.new.output c.carry_out.new.keeper c.carry_out.new.door) (Some c.in-Some.command) (command_of (map string_bytes c.args.words.now))
    c.carry_out.result (c.in-Some.ensures) c.carry_out.ensures

-- they are none
pub returns-in-Ok : goal.returns-in-Ok
returns-in-Ok g c =
    let at = world g.I.Source.left g.I.Source.faults g.O.Sink.taken g.O.Sink.faults g.K.Keeper.rows g.K.Keeper.faults g.D.Door.visits g.D.Door.faults in
    let old = at c.args.input.now c.args.output.now c.args.keeper.now c.args.door.now in
    let side = sink_side g.O.Sink.taken g.O.Sink.faults c.usage.new.output in
    comes_of old (with_sink old side) None (command_of (map string_bytes c.args.words.now)) ended.Usage (c.in-None.ensures) (usage_said old side c.in-Ok.ensures.ok)

pub returns-in-Err : goal.returns-in-Err
returns-in-Err g c =
    let at = world g.I.Source.left g.I.Source.faults g.O.Sink.taken g.O.Sink.faults g.K.Keeper.rows g.K.Keeper.faults g.D.Door.visits g.D.Door.faults in
    let old = at c.args.input.now c.args.output.now c.args.keeper.now c.args.door.now in
    let side = sink_side g.O.Sink.taken g.O.Sink.faults c.usage.new.output in
    comes_of old (with_sink old side) None (command_of (map string_bytes c.args.words.now)) ended.Memory (c.in-None.ensures) (usage_cut old side c.in-Err.ensures.err)
