use Rattle.card_ports.specs.Visits.{wire}
use Rattle.card_http.specs.Exchanges.{moment}
use Rattle.card_http.specs.Outcomes.{ledger}
use Rattle.card_http.proofs.ExchangeLemmas.{answered_whole, body_ended}
use Rattle.card_http.proofs.LedgerLemmas.{with_body}
use Rattle.card_http.proofs.serving.serve_body.Goals as goal

pub returns-in-Err : goal.returns-in-Err
returns-in-Err g c =
    let l = ledger g.K.Keeper.rows g.K.Keeper.faults c.args.desk.now.state c.args.keeper.now in
    body_ended c.args.head.now l _ _ c.read_body.new.body.items c.args.wanted _ c.requires.wanted c.in-Err.ensures.part c.requires.fits c.in-Err.ensures.err

pub returns : goal.returns
returns g c =
    let at = moment g.C.Source.left g.C.Sink.taken g.C.Source.faults g.K.Keeper.rows g.K.Keeper.faults in
    let comes = with_body c.args.desk.now.state c.args.wanted.route c.read_body.new.body.items c.as_slice.result.now (ledger g.K.Keeper.rows g.K.Keeper.faults c.args.desk.now.state c.args.keeper.now)
    (ledger g.K.Keeper.rows g.K.Keeper.faults c.answer_route-outcome.new.desk.state c.answer_route-outcome.new.keeper) c.answer_route-outcome.result c.as_slice.ensures.value c.answer_route-outcome.ensures in
    answered_whole c.args.head.now (at c.args.link.now c.args.desk.now.state c.args.keeper.now) (at c.send_outcome.new.link c.answer_route-outcome.new.desk.state c.answer_route-outcome.new.keeper) (wire g.C.Source.left g.C.Sink.taken g.C.Source.faults c.read_body.new.link) c.read_body.new.body.items c.args.wanted c.is_json.result
    c.answer_route-outcome.result c.send_outcome.result c.requires.wanted c.is_json.ensures c.in-Ok.ensures.ok c.in-Ok.ensures.whole comes c.send_outcome.ensures
