use Rattle.card_ports.specs.Visits.{wire}
use Rattle.card_http.proofs.ExchangeLemmas.{sent_none}
use Rattle.card_http.proofs.sending.send_outcome.Goals as goal

-- memory was wanted for the body
pub returns-in-Err : goal.returns-in-Err
returns-in-Err g c = let at = wire g.C.Source.left g.C.Sink.taken g.C.Source.faults in sent_none (at c.args.link.now) _ c.status-status.result

pub returns-in-Err-member_text : goal.returns-in-Err-member_text
returns-in-Err-member_text g c = let at = wire g.C.Source.left g.C.Sink.taken g.C.Source.faults in sent_none (at c.args.link.now) _ c.status-status.result
