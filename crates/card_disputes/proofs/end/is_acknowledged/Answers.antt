use Rattle.std.proofs.Common.{List, ap, sym, ◌∙◌}
use Rattle.card_disputes.proofs.EndLemmas.{any-is}
use Rattle.card_events.specs.History.{CorrectedPost, anchor_of}
use Rattle.card_model.specs.Deadlines.{acknowledges, has}
use Rattle.card_disputes.proofs.end.is_acknowledged.Goals as goal

pub returns : goal.returns
returns c holidays stands =
    sym (c.last_end.ensures 0) ∙ any-is (acknowledges c.args.dispute) (anchor_of c.args.posts.now.history) holidays c.args.posts.now.history ∙ ap (λ (l : List CorrectedPost). has (acknowledges c.args.dispute) l) (sym stands)
