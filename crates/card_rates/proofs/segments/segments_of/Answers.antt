use Rattle.std.proofs.Common.{◌++◌, length, sym, ap, ◌∙◌, arith}
use Rattle.card_segments.specs.Balances.{opening_segments}
use Rattle.card_rates.proofs.Added.{first-opening}
use Rattle.card_rates.specs.Segments.{kept_from}
use Rattle.card_rates.proofs.SlotsAdded.{few-kept, segments-are}
use Rattle.card_rates.proofs.segments.segments_of.Goals as goal

pub add_all-requires-clause-few : goal.add_all-requires-clause-few
add_all-requires-clause-few c =
    let five = ap length c.in_ok-segments.ensures.segments in
    let few = few-kept c.args.posts.now.history c.requires.few in
    omega (arith, five, few)

pub returns-clause-segments : goal.returns-clause-segments
returns-clause-segments c holidays =
    let history = c.args.posts.now.history in
    c.in_ok-add_all.ensures.segments
    ∙ (ap (λ gs. gs ++ kept_from 1 history) c.in_ok-segments.ensures.segments
    ∙ (ap (λ d. opening_segments d ++ kept_from 1 history) (c.opening_day-opened.ensures ∙ first-opening history c.post_of.result.now c.post_of.ensures)
    ∙ sym (segments-are holidays history)))
