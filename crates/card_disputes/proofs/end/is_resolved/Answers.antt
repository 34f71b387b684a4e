use Rattle.std.proofs.Common.{List, ap, sym, ◌∙◌}
use Rattle.card_disputes.proofs.EndLemmas.{any-is}
use Rattle.card_disputes.proofs.FirstWaiting.{found_any, found_none}
use Rattle.card_events.specs.History.{CorrectedPost, anchor_of}
use Rattle.card_model.specs.Deadlines.{has, resolves}
use Rattle.card_disputes.proofs.end.is_resolved.Goals as goal

pub returns-in-Some : goal.returns-in-Some
returns-in-Some c holidays stands =
    found_any (resolves c.args.dispute) _ c.args.posts.now.history (sym c.first_waiting.ensures ∙ c.in-Some.is)
    ∙ (any-is (resolves c.args.dispute) (anchor_of c.args.posts.now.history) holidays c.args.posts.now.history ∙ ap (λ (l : List CorrectedPost). has (resolves c.args.dispute) l) (sym stands))

pub returns-in-None : goal.returns-in-None
returns-in-None c holidays stands =
    found_none (resolves c.args.dispute) c.args.posts.now.history (sym c.first_waiting.ensures ∙ c.in-None.is)
    ∙ (any-is (resolves c.args.dispute) (anchor_of c.args.posts.now.history) holidays c.args.posts.now.history ∙ ap (λ (l : List CorrectedPost). has (resolves c.args.dispute) l) (sym stands))
