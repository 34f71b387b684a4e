use Rattle.std.proofs.Common.{List, ap, sym, ◌∙◌}
use Rattle.std.specs.Prelude.{not}
use Rattle.card_disputes.proofs.IncreaseLemmas.{any-increase}
use Rattle.card_events.specs.History.{CorrectedPost, anchor_of}
use Rattle.card_model.specs.Deadlines.{increases}
use Rattle.card_model.specs.Refusals.{is_empty}
use Rattle.card_disputes.proofs.increase.has_increase.Goals as goal

pub returns : goal.returns
returns c holidays stands =
    c.has_increase_by.ensures ∙ any-increase (anchor_of c.args.posts.now.history) holidays c.args.posts.now.history c.args.day
    ∙ ap (λ (l : List CorrectedPost). not (is_empty (increases l c.args.day))) (sym stands)
