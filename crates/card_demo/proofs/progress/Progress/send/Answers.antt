use Rattle.std.proofs.Common.{◌≡◌, ◌<◌, ◌^◌, subst, sym}
use Rattle.card_demo.specs.Progress.{Progress, after}
use Rattle.card_demo.specs.Requests.{one}
use Rattle.card_demo.proofs.PieceLemmas.{progress_of}
use Rattle.card_demo.proofs.RunLemmas.{sent}
use Rattle.card_demo.proofs.progress.Progress.send.Goals as goal

pub note-requires : goal.note-requires
note-requires c = record { room = subst (λ (p : Progress). p.count < 2 ^ 63) (sym c.self.view_is) c.requires.room }

pub returns : goal.returns
returns c =
    let d = c.self.inside in
    let p : Progress = record { state = d.ledger; x = d.generator; count = d.tally.count; refused = d.tally.refused } in
    let r = c.args.request.now in
    let s = c.apply.new.self in
    let t = c.note.new.self in
    subst (λ (q : Progress). progress_of s d.generator t.count t.refused ≡ after q (one r q.x)) c.self.view_is
    (sent p r s t.count t.refused c.in_ok-refused.refused c.in_ok-refused.ensures.state c.in_ok-refused.ensures.refused c.note.ensures.count c.note.ensures.refused)
