use Rattle.std.proofs.Common.{ℕ, arith, subst}
use Rattle.card_commands.specs.Attended.{HavePassed, Serves, parties}
use Rattle.card_commands.specs.declared.ended.Ended.TheVariants as ended
use Rattle.card_commands.proofs.ServerLemmas.{has_all, has_fallen, has_more, has_none}
use Rattle.card_commands.proofs.serve.attend_all.Goals as goal

pub loop-served-init : goal.loop-served-init
loop-served-init g c = record { attended = has_none _ c.args.desk.now.state c.requires.fits; few = omega arith }

pub loop-served-preserved : goal.loop-served-preserved
loop-served-preserved g c = record { attended = has_more _ _ _ _ _ _ _ c.loop-served.invariant.attended c.in-Ok.ensures.ok; few = omega (arith, c.loop-served-test.true) }

pub returns-in-Err : goal.returns-in-Err
returns-in-Err g c = has_fallen _ _ _ _ _ _ c.loop-served.served c.args.count c.in-Err.ended c.loop-served-test.true c.loop-served.invariant.attended c.in-Err.ensures.err

pub returns : goal.returns
returns g c =
    let at = parties g.O.Sink.taken g.O.Sink.faults g.K.Keeper.rows g.K.Keeper.faults g.D.Door.visits g.D.Door.faults in
    let all = has_all _ _ _ _ c.loop-served.served c.loop-served.invariant.attended in
    let old = at c.args.output.now c.args.keeper.now c.args.door.now in
    let new = at c.loop-served.output c.loop-served.keeper c.loop-served.door in
    subst (λ (n : ℕ). Serves (HavePassed old.door.visits new.door.visits) n c.args.desk.now.state old new ended.Done) (omega (arith, c.loop-served-test.false, c.loop-served.invariant.few)) all
