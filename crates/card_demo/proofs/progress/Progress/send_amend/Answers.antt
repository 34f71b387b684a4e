use Rattle.std.proofs.Common.{◌<◌, ◌^◌, subst, sym}
use Rattle.card_demo.specs.Progress.{Progress}
use Rattle.card_demo.specs.Requests.{amend}
use Rattle.card_demo.proofs.RunLemmas.{drawn_sent}
use Rattle.card_demo.proofs.progress.Progress.send_amend.Goals as goal

pub send-requires-clause-room : goal.send-requires-clause-room
send-requires-clause-room c = subst (λ (p : Progress). p.count < 2 ^ 63) (sym c.self.view_is) c.requires.room

pub returns : goal.returns
returns c =
    let d = c.self.inside in
    let q : Progress = record { state = d.ledger; x = d.generator; count = d.tally.count; refused = d.tally.refused } in
    drawn_sent c.send.result c.args.self.now q c.send.new.self c.amend.new.generator c.in_ok-request.request (amend c.args.t c.args.i) c.self.view_is c.in_ok-request.ensures.request c.send.ensures
