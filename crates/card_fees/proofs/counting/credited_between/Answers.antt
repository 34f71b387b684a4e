use Rattle.std.proofs.Common.{ap, sym, ◌∙◌}
use Rattle.std.specs.List.{sum_by}
use Rattle.card_events.specs.History.{anchor_of}
use Rattle.card_model.specs.Payments.{credited}
use Rattle.card_posts.specs.Posted.{folding_order}
use Rattle.card_fees.specs.Counting.{credits, since, up_to}
use Rattle.card_fees.proofs.Before.{slots-credited}
use Rattle.card_fees.proofs.counting.credited_between.Goals as goal

pub returns-clause-value : goal.returns-clause-value
returns-clause-value c holidays stands =
    let history = c.args.posts.now.history in
    c.credits_sum.ensures.value ∙ ap (sum_by (credits history)) c.slots_of.ensures.value
    ∙ ap (λ l. sum_by (credits history) (up_to c.args.to (since c.args.from (folding_order l)))) stands
    ∙ slots-credited (anchor_of history) holidays history c.args.from c.args.to
    ∙ ap (λ l. credited l c.args.from c.args.to) (sym stands)
