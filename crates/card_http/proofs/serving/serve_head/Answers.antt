use Rattle.std.proofs.Common.{sym, ◌∙◌}
use Rattle.card_ports.specs.Visits.{wire}
use Rattle.card_http.specs.Outcomes.{ledger}
use Rattle.card_http.proofs.ExchangeLemmas.{answered_early, sent_text}
use Rattle.card_http.proofs.serving.serve_head.Goals as goal

-- the head is answered without its body
pub returns-in-Err : goal.returns-in-Err
returns-in-Err g c =
    let l = ledger g.K.Keeper.rows g.K.Keeper.faults c.args.desk.now.state c.args.keeper.now in
    let at = wire g.C.Source.left g.C.Sink.taken g.C.Source.faults in
    answered_early c.args.head.now l (at c.args.link.now) (at c.send_answer.new.link) c.in-Err.early c.is_json.result c.send_answer.result (sym c.judge.ensures.value ∙ c.in-Err.is) c.is_json.ensures c.requires.fits
    (sent_text (at c.args.link.now) (at c.send_answer.new.link) _ _ c.is_json.result _ _ c.send_answer.result c.of_early.ensures c.early_text-text.ensures c.send_answer.ensures)
