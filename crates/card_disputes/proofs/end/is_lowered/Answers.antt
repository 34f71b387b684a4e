use Rattle.std.proofs.Common.{List, ap, sym, ◌∙◌}
use Rattle.card_disputes.proofs.EndLemmas.{later-is}
use Rattle.card_events.specs.History.{CorrectedPost, anchor_of}
use Rattle.card_model.specs.Deadlines.{has_later, is_lower}
use Rattle.card_disputes.proofs.end.is_lowered.Goals as goal

pub returns : goal.returns
returns c holidays stands =
    sym (c.requires.lower c.args.number) ∙ later-is is_lower (anchor_of c.args._posts.now.history) holidays c.args._posts.now.history c.args.number ∙ ap (λ (l : List CorrectedPost). has_later is_lower c.args.number l) (sym stands)
