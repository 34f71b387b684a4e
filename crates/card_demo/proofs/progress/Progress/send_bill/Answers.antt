use Rattle.card_demo.specs.Requests.{bill}
use Rattle.card_demo.proofs.RunLemmas.{made_sent}
use Rattle.card_demo.proofs.progress.Progress.send_bill.Goals as goal

pub returns : goal.returns
returns c =
    let p = c.args.self.now in
    made_sent c.send.result p c.send.new.self c.in_ok-request.request (bill c.args.t c.args.i) (c.in_ok-request.ensures.request p.x) c.send.ensures
