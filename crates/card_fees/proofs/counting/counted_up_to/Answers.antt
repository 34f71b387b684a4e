use Rattle.std.proofs.Common.{min, nat_le, ap, sym, ◌∙◌}
use Rattle.card_events.specs.History.{anchor_of}
use Rattle.card_model.specs.Payments.{counted}
use Rattle.card_posts.specs.Posted.{folding_order}
use Rattle.card_events.specs.declared.kept.Slot.{Slot}
use Rattle.card_fees.specs.Counting.{counts, since, slots_sum, up_to}
use Rattle.card_fees.specs.declared.returning.Until.TheVariants as until
use Rattle.card_fees.proofs.SlotSums.{slots-counted}
use Rattle.card_fees.proofs.Slots.{sum-filter}
use Rattle.card_fees.proofs.counting.counted_up_to.Goals as goal

pub returns-clause-value : goal.returns-clause-value
returns-clause-value c holidays stands =
    let history = c.args.posts.now.history in
    let listed = c.args.posts.now.corrected in
    let to = c.args.to in
    c.sum.ensures.value ∙ ap (min c.args.limit) (sym (sum-filter (counts (until.Day to) history listed) (λ (s : Slot). nat_le s.day to) c.slots_since.result.now))
    ∙ ap (λ w. min c.args.limit (slots_sum (until.Day to) history listed (up_to to w))) c.slots_since.ensures.value
    ∙ ap (λ l. min c.args.limit (slots_sum (until.Day to) history l (up_to to (since c.args.from (folding_order l))))) stands
    ∙ ap (min c.args.limit) (slots-counted (anchor_of history) holidays history c.args.from to)
    ∙ ap (λ l. min c.args.limit (counted l c.args.from to)) (sym stands)
