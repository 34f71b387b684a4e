use Rattle.std.proofs.Common.{◌+◌, ◌-◌, ◌≤◌, inl, ap, ◌∙◌, arith}
use Rattle.card_model.specs.Payments.{asks}
use Rattle.card_fees.specs.Tallied.{paid_before}
use Rattle.card_fees.proofs.Tallies.{tallies-stay}
use Rattle.card_fees.proofs.left.minimum_left.Goals as goal

pub returns-clause-value : goal.returns-clause-value
returns-clause-value c holidays last stands t =
    let listed = c.args.posts.now.corrected in
    let tally = c.reach.new.self in
    let far = last + c.args.day in
    let low : c.args.day ≤ far = omega arith in
    let long : last ≤ far = omega arith in
    let on = c.reach.ensures.right holidays far stands (inl low) (tallies-stay last far listed c.args.tally.now long t) in
    c.left_of.ensures
    ∙ ap (λ z. z - tally.paid) c.asked-amount.ensures
    ∙ ap (λ n. asks c.args.c.now - n)
    (on.paid
    ∙ ap (λ f. paid_before listed f tally.day tally.number) (c.reach.ensures.from ∙ c.next.ensures)
    ∙ ap (λ d. paid_before listed (c.args.c.now.closing + 1) d tally.number) c.reach.ensures.day
    ∙ ap (paid_before listed (c.args.c.now.closing + 1) c.args.day) c.reach.ensures.number)

pub returns-clause-tally : goal.returns-clause-tally
returns-clause-tally c holidays last stands l t = c.reach.ensures.right holidays last stands (inl l) t
