use Rattle.std.proofs.Common.{◌+◌, ◌-◌, ◌≤◌, ap, ◌∙◌, arith}
use Rattle.card_model.specs.Payments.{asks, counted}
use Rattle.card_fees.proofs.Tallies.{tallies-stay, tally-sum, whole-by}
use Rattle.card_fees.proofs.due.past_due.Goals as goal

pub returns-clause-value : goal.returns-clause-value
returns-clause-value c holidays last stands t =
    let listed = c.args.posts.now.corrected in
    let far = last + c.args.end in
    let low : c.args.end ≤ far = omega arith in
    let long : last ≤ far = omega arith in
    let on = c.reach.ensures.right holidays far stands (whole-by far c.args.end c.next-2.result c.next-2.ensures low) (tallies-stay last far listed c.args.tally.now long t) in
    let sum = tally-sum listed far c.args.end c.reach.new.self (c.reach.ensures.day ∙ c.next-2.ensures) c.reach.ensures.number low on in
    c.left_of.ensures
    ∙ ap (λ z. z - c.reach.new.self.paid) c.asked-minimum.ensures
    ∙ ap (λ n. asks c.args.c.now - n) (sum.paid ∙ ap (λ d. counted listed d c.args.end) (c.reach.ensures.from ∙ c.next.ensures))

pub returns-clause-tally : goal.returns-clause-tally
returns-clause-tally c holidays last stands l t = c.reach.ensures.right holidays last stands (whole-by last c.args.end c.next-2.result c.next-2.ensures l) t
