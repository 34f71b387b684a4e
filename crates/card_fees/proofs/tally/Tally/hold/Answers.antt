use Rattle.std.proofs.Common.{subst, sym, ◌∙◌}
use Rattle.card_fees.specs.Tallied.{IsSumOf}
use Rattle.card_fees.proofs.Tallies.{tally-sum, whole-by}
use Rattle.card_fees.proofs.tally.Tally.hold.Goals as goal

pub returns-clause-right : goal.returns-clause-right
returns-clause-right c holidays last stands l t =
    let listed = c.args.posts.now.corrected in
    let on = c.reach.ensures.right holidays last stands (whole-by last c.args.to c.next.result c.next.ensures l) t in
    record {
      paid = on.paid;
      credited = on.credited;
      stands = on.stands;
      due = subst (IsSumOf listed last) (sym c.sum_to.ensures) (tally-sum listed last c.args.to c.reach.new.self (c.reach.ensures.day ∙ c.next.ensures) c.reach.ensures.number l on);
      before = on.due;
    }

pub returns-clause-sum : goal.returns-clause-sum
returns-clause-sum c holidays last stands l t =
    let listed = c.args.posts.now.corrected in
    let on = c.reach.ensures.right holidays last stands (whole-by last c.args.to c.next.result c.next.ensures l) t in
    subst (IsSumOf listed last) (sym c.sum_to-2.ensures) (tally-sum listed last c.args.to c.reach.new.self (c.reach.ensures.day ∙ c.next.ensures) c.reach.ensures.number l on)
