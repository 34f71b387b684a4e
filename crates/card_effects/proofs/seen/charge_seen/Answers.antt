use Rattle.std.proofs.Common.{sym, ap, ◌∙◌}
use Rattle.card_effects.proofs.Numbered.{charge-is, charge_in}
use Rattle.card_effects.proofs.seen.charge_seen.Goals as goal

pub returns-in-Some-clause-value : goal.returns-in-Some-clause-value
returns-in-Some-clause-value c issued shared stands =
    c.if_charge.ensures ∙ (ap charge_in (sym c.in-Some.is ∙ c.post_seen.ensures.value issued shared stands) ∙ charge-is c.args.posts.now.history issued shared c.args.day c.args.number)

pub returns-in-None-clause-value : goal.returns-in-None-clause-value
returns-in-None-clause-value c issued shared stands =
    ap charge_in (sym c.in-None.is ∙ c.post_seen.ensures.value issued shared stands) ∙ charge-is c.args.posts.now.history issued shared c.args.day c.args.number
