use Rattle.card_ports.specs.Visits.{wire}
use Rattle.card_http.proofs.ExchangeLemmas.{sent_none}
use Rattle.card_http.proofs.sending.send_answer.Goals as goal

-- memory was wanted for the text
pub returns-in-Err : goal.returns-in-Err
returns-in-Err g c = let at = wire g.C.Source.left g.C.Sink.taken g.C.Source.faults in sent_none (at c.args.link.now) _ c.args.status
