use Rattle.std.proofs.Common.{ap, ◌∙◌, arith, subst, sym, w64}
use Rattle.std.proofs.lemmas.Int.{to_z-of_z}
use Rattle.card_model.specs.Entries.{at_least_zero}
use Rattle.card_segments.specs.Sole.{AreOfSole}
use Rattle.card_segments.proofs.Sole.{sole-parts}
use Rattle.card_segments.proofs.allocation.sole_parts.Goals as goal

pub returns-clause-parts : goal.returns-clause-parts
returns-clause-parts c =
    let bs = c.args.s.now.balances in
    let amount = c.at_least_zero-amount.ensures ∙ ap at_least_zero (to_z-of_z w64 c.args.amount c.ranges.amount) in
    let owed = c.at_least_zero.ensures ∙ ap at_least_zero (to_z-of_z w64 c.balance.result (record { sfits = c.balance.type_inv }) ∙ c.balance.ensures.value) in
    subst (λ n. AreOfSole bs n c.of.result) amount
    (sole-parts bs c.in-Some.id c.at_least_zero-amount.result c.at_least_zero.result c.min-paid.result c.of.result c.balance.ensures.signs (omega (arith, c.in-Some.ensures.known)) (sym c.in-Some.ensures.holder) owed c.min-paid.ensures
    (c.of.ensures ∙ c.in_ok-two_parts.ensures))
