use Rattle.std.proofs.Common.{ℕ, min, ap, sym, ◌∙◌, arith}
use Rattle.card_events.specs.History.{anchor_of}
use Rattle.card_model.specs.Payments.{folded_before, is_before, counted}
use Rattle.card_posts.specs.Posted.{folding_order}
use Rattle.card_events.specs.declared.kept.Slot.{Slot}
use Rattle.card_fees.specs.Counting.{counts, in_front, since, slots_sum}
use Rattle.card_fees.specs.declared.returning.Until.TheVariants as until
use Rattle.card_fees.proofs.Before.{slots-before}
use Rattle.card_fees.proofs.Slots.{sum-filter}
use Rattle.card_fees.proofs.SlotSums.{unlimited}
use Rattle.card_fees.specs.Limits.{payments_limit}
use Rattle.card_fees.proofs.counting.counted_in_front.Goals as goal

pub returns : goal.returns
returns c holidays stands =
    let history = c.args.posts.now.history in
    let listed = c.args.posts.now.corrected in
    let day = c.args.day in
    let number = c.args.number in
    let limit : ℕ = 18_446_744_073_709_551_615 in
    let value =
    c.sum.ensures.value ∙ ap (min limit) (sym (sum-filter (counts (until.Post day number) history listed) (λ (s : Slot). is_before day number s.day s.number) c.slots_since-slots.result.now))
    ∙ ap (λ w. min limit (slots_sum (until.Post day number) history listed (in_front day number w))) c.slots_since-slots.ensures.value
    ∙ ap (λ l. min limit (slots_sum (until.Post day number) history l (in_front day number (since c.args.from (folding_order l))))) stands
    ∙ ap (min limit) (slots-before (anchor_of history) holidays history c.args.from day number)
    ∙ ap (λ l. min limit (counted (folded_before day number l) c.args.from day)) (sym stands)
    in
    unlimited limit payments_limit c.sum.result (counted (folded_before day number listed) c.args.from day) value c.sum.ensures.bound (omega arith)
