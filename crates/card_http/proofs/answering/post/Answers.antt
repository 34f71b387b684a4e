use Rattle.std.proofs.Common.{◌⊎◌, sym, subst}
use Rattle.card_http.specs.Outcomes.{Comes, IsFaultOf, IsPosted, ledger}
use Rattle.card_http.specs.declared.outcome.Outcome.{Outcome}
use Rattle.card_wire.specs.declared.route.Route.TheVariants as route
use Rattle.card_http.proofs.LedgerLemmas.{said_none, said_request}
use Rattle.card_http.proofs.answering.post.Goals as goal

pub returns-in-Ok : goal.returns-in-Ok
returns-in-Ok g c = said_request _ c.args.body.now c.in-Ok.request _ _ _ c.in-Ok.ensures.ok c.carry_out.ensures

pub returns-in-Err : goal.returns-in-Err
returns-in-Err g c =
    let at = ledger g.K.Keeper.rows g.K.Keeper.faults c.args.desk.now.state c.args.keeper.now in
    subst (λ (o : Outcome). Comes (λ a. IsPosted c.args.desk.now.state c.args.body.now a ⊎ IsFaultOf route.Posts a) at at o) (sym c.unread.ensures)
    (said_none c.args.desk.now.state c.args.body.now c.in-Err.fault at c.in-Err.ensures.err c.requires.fits)
