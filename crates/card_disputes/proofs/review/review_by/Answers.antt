use Rattle.std.proofs.Common.{List, max, sym, ap, ◌∙◌, Some, arith}
use Rattle.std.specs.List.{filter_map, fold}
use Rattle.std.specs.Option.{option_map}
use Rattle.card_events.specs.Later.{six_months_after}
use Rattle.card_disputes.proofs.ReviewLemmas.{first-by, last-dated, review-is}
use Rattle.card_events.specs.History.{CorrectedPost, anchor_of}
use Rattle.card_events.specs.declared.kept.Kept.{Kept}
use Rattle.card_model.specs.Deadlines.{review_by, review_of}
use Rattle.card_disputes.proofs.review.review_by.Goals as goal

pub six_months_after-requires : goal.six_months_after-requires
six_months_after-requires c =
    let first = first-by c.args.today c.in-Some.first c.args.posts.now.history (sym c.first_increase.ensures ∙ c.in-Some.is) in
    let today = c.requires.today in
    let dated = last-dated c.args.posts.now.history c.in-Some.first c.requires.dated (omega (arith, first, today)) in
    omega (arith, dated, c.reviewed.ensures)

pub returns-in-Some : goal.returns-in-Some
returns-in-Some c holidays stands =
    let history = c.args.posts.now.history in
    ap Some (c.six_months_after.ensures ∙ ap six_months_after c.reviewed.ensures)
    ∙ ap (option_map (λ first. six_months_after (fold max first (filter_map (λ (k : Kept). review_of k.post) history)))) (sym (sym c.first_increase.ensures ∙ c.in-Some.is))
    ∙ review-is (anchor_of history) holidays history c.args.today
    ∙ ap (λ (l : List CorrectedPost). review_by l c.args.today) (sym stands)

pub returns-in-None : goal.returns-in-None
returns-in-None c holidays stands =
    let history = c.args.posts.now.history in
    ap (option_map (λ first. six_months_after (fold max first (filter_map (λ (k : Kept). review_of k.post) history)))) (sym (sym c.first_increase.ensures ∙ c.in-None.is))
    ∙ review-is (anchor_of history) holidays history c.args.today
    ∙ ap (λ (l : List CorrectedPost). review_by l c.args.today) (sym stands)
