use Rattle.std.proofs.Common.{length, ap, arith}
use Rattle.card_ports.proofs.DoorLemmas.{accepts, tail_fresh}
use Rattle.card_ports.proofs.memory_door.MemoryDoorDoor.accept.Goals as goal

pub invariant_of-self-in-Some : goal.invariant_of-self-in-Some
invariant_of-self-in-Some c =
    let longer = ap length c.in-Some.ensures.items in
    (omega (arith, c.self.invariant.0, longer), tail_fresh c.in-Some.link _ _ c.in-Some.ensures.items c.self.invariant.1)

pub returns-in-Some-clause-ok : goal.returns-in-Some-clause-ok
returns-in-Some-clause-ok c = accepts c.args.self.now c.in-Some.link _ _ _ _ _ c.self.inside.calls c.fails_now.new.self c.in-Some.ensures.items c.self.view_is
