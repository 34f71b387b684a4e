use Rattle.std.proofs.Common.{inl, inr, refl}
use Rattle.card_http.specs.Outcomes.{ledger}
use Rattle.card_http.proofs.LedgerLemmas.{acted_stays, failed, replied, wanted_memory}
use Rattle.card_http.proofs.answering.carry_out.Goals as goal

pub returns-in-Ok : goal.returns-in-Ok
returns-in-Ok g c =
    let at = ledger g.K.Keeper.rows g.K.Keeper.faults in
    replied (at c.args.desk.now.state c.args.keeper.now) (at c.apply.new.desk.state c.apply.new.keeper) c.args.wanted.now c.in-Ok.reply c.in-Ok.ensures.ok c.in-Ok.ensures.counts.unfailed

pub returns-in-Err-Keeper : goal.returns-in-Err-Keeper
returns-in-Err-Keeper g c =
    let at = ledger g.K.Keeper.rows g.K.Keeper.faults in
    let old = at c.args.desk.now.state c.args.keeper.now in
    let new = at c.apply.new.desk.state c.apply.new.keeper in
    failed old new c.args.wanted.now (acted_stays old new c.in-Err-Keeper.ensures.err c.apply.ensures.told c.in-Err-Keeper.ensures.rows_stay c.requires.fits) c.apply.ensures.counts.count (c.in-Err-Keeper.ensures.counts.cause (cc))

pub returns-in-Err-Memory : goal.returns-in-Err-Memory
returns-in-Err-Memory g c =
    let at = ledger g.K.Keeper.rows g.K.Keeper.faults in
    let old = at c.args.desk.now.state c.args.keeper.now in
    let new = at c.apply.new.desk.state c.apply.new.keeper in
    wanted_memory _ old new (inr (inl refl)) (acted_stays old new c.in-Err-Memory.ensures.err c.apply.ensures.told c.in-Err-Memory.ensures.rows_stay c.requires.fits) (c.in-Err-Memory.ensures.counts.wanted (cc))
