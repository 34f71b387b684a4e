use Rattle.std.proofs.Common.{◌∙◌, ap, arith, sym, subst, length, drop, w64}
use Rattle.std.proofs.lemmas.Int.{to_z-of_z}
use Rattle.card_model.specs.Allocation.{placed, parts}
use Rattle.card_model.specs.Entries.{at_least_zero}
use Rattle.card_segments.specs.Holdings.{holdings}
use Rattle.card_segments.specs.Parts.{AreParts, Ascend}
use Rattle.card_segments.proofs.Counted.{counted-ascends}
use Rattle.card_segments.proofs.HoldingLists.{holdings-ascend}
use Rattle.card_segments.proofs.PartFacts.{placed-is, placed-parts, at, written}
use Rattle.card_segments.proofs.allocation.place_credit.Goals as goal

pub pay_by-credit-requires-clause-ascending : goal.pay_by-credit-requires-clause-ascending
pay_by-credit-requires-clause-ascending c =
    rw (c.deref_mut.ensures.value, c.in_ok-list.ensures.items) (counted-ascends 0 (holdings c.args.first.now c.args.s.now.balances c.args.ranks.now) (holdings-ascend c.args.first.now 0 2 (drop 2 c.args.s.now.balances) (drop 2 c.args.ranks.now) (omega arith)))

pub of-requires : goal.of-requires
of-requires c =
    let left = c.pay_by-credit.new.holdings in
    let amount = c.at_least_zero.ensures ∙ ap at_least_zero (to_z-of_z w64 c.args.amount c.ranges.amount) in
    let items = c.in_ok-list.list.items in
    let long = c.pay_by-credit.auto.holdings ∙ ap length c.deref_mut.ensures.value in
    let back = c.deref.ensures.value ∙ written c.in_ok-list.list.len left items long (sym (ap length c.deref_mut.ensures.value) ∙ c.deref_mut.ensures.len) in
    let is = placed-is c.args.s.now.balances c.args.ranks.now c.args.first.now c.at_least_zero.result c.pay_by-credit.result c.deref_mut.result.now left c.in_ok-parts_of.field-0.items
    (c.deref_mut.ensures.value ∙ c.in_ok-list.ensures.items) c.pay_by-credit.ensures.paid (c.in_ok-parts_of.ensures ∙ ap (λ us. parts (at us c.pay_by-credit.result)) back) in
    let whole = placed-parts c.args.s.now.balances c.args.ranks.now c.args.first.now c.at_least_zero.result c.in_ok-list.ensures.some in
    subst (Ascend 0) (sym is) whole.ascending

pub returns-clause-parts : goal.returns-clause-parts
returns-clause-parts c =
    let left = c.pay_by-credit.new.holdings in
    let amount = c.at_least_zero.ensures ∙ ap at_least_zero (to_z-of_z w64 c.args.amount c.ranges.amount) in
    let items = c.in_ok-list.list.items in
    let long = c.pay_by-credit.auto.holdings ∙ ap length c.deref_mut.ensures.value in
    let back = c.deref.ensures.value ∙ written c.in_ok-list.list.len left items long (sym (ap length c.deref_mut.ensures.value) ∙ c.deref_mut.ensures.len) in
    let is = placed-is c.args.s.now.balances c.args.ranks.now c.args.first.now c.at_least_zero.result c.pay_by-credit.result c.deref_mut.result.now left c.in_ok-parts_of.field-0.items
    (c.deref_mut.ensures.value ∙ c.in_ok-list.ensures.items) c.pay_by-credit.ensures.paid (c.in_ok-parts_of.ensures ∙ ap (λ us. parts (at us c.pay_by-credit.result)) back) in
    let whole = placed-parts c.args.s.now.balances c.args.ranks.now c.args.first.now c.at_least_zero.result c.in_ok-list.ensures.some in
    c.of.ensures ∙ is ∙ ap (λ n. placed n (holdings c.args.first.now c.args.s.now.balances c.args.ranks.now)) amount

pub returns-clause-whole : goal.returns-clause-whole
returns-clause-whole c =
    let left = c.pay_by-credit.new.holdings in
    let amount = c.at_least_zero.ensures ∙ ap at_least_zero (to_z-of_z w64 c.args.amount c.ranges.amount) in
    let items = c.in_ok-list.list.items in
    let long = c.pay_by-credit.auto.holdings ∙ ap length c.deref_mut.ensures.value in
    let back = c.deref.ensures.value ∙ written c.in_ok-list.list.len left items long (sym (ap length c.deref_mut.ensures.value) ∙ c.deref_mut.ensures.len) in
    let is = placed-is c.args.s.now.balances c.args.ranks.now c.args.first.now c.at_least_zero.result c.pay_by-credit.result c.deref_mut.result.now left c.in_ok-parts_of.field-0.items
    (c.deref_mut.ensures.value ∙ c.in_ok-list.ensures.items) c.pay_by-credit.ensures.paid (c.in_ok-parts_of.ensures ∙ ap (λ us. parts (at us c.pay_by-credit.result)) back) in
    let whole = placed-parts c.args.s.now.balances c.args.ranks.now c.args.first.now c.at_least_zero.result c.in_ok-list.ensures.some in
    subst (λ n. AreParts c.args.s.now.balances n c.of.result) amount (subst (AreParts c.args.s.now.balances c.at_least_zero.result) (sym (c.of.ensures ∙ is)) whole)
