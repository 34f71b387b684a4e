use Rattle.std.proofs.Common.{◌∙◌, ap}
use Rattle.card_replay.proofs.Settled.{settled-by-list, settled-today}
use Rattle.card_replay.specs.Replays.{Replay}
use Rattle.card_replay.proofs.replay.Replay.made.Goals as goal

pub returns-clause-all : goal.returns-clause-all
returns-clause-all c = λ shared h none.
    let r = c.args.self.now in
    c.deref.ensures.value ∙ (ap (λ (x : Replay). x.late.made) c.self.view_is ∙ (settled-by-list shared r.lists r.folding.reached r.late none h.late).made)

pub returns-clause-today : goal.returns-clause-today
returns-clause-today c = λ shared today h may reached.
    let r = c.args.self.now in
    c.deref.ensures.value ∙ (ap (λ (x : Replay). x.late.made) c.self.view_is ∙ (settled-today shared today r h may reached).made)
