use Rattle.std.proofs.Common.{subst, sym}
use Rattle.card_fees.specs.Tallied.{IsTallyOf}
use Rattle.card_fees.proofs.Tallies.{by-end}
use Rattle.card_fees.proofs.tally.Tally.reach.Goals as goal
use Rattle.card_fees.proofs.tally.Tally.reach.Goals.{then-not-leads_to, else-not-leads_to}

pub returns-clause-right : goal.returns-clause-right
returns-clause-right c holidays last stands by t =
    let listed = c.args.posts.now.corrected in
    c.count_on.ensures.right holidays last stands by
    (elim c.if-not-leads_to.branch [
      | then-not-leads_to w ↦ subst (IsTallyOf listed last) (sym w.self-is) (w.restarted.ensures.right listed last (by-end last c.args.day c.args.number by) t)
      | else-not-leads_to w ↦ subst (IsTallyOf listed last) (sym w.self-is) t
    ])
