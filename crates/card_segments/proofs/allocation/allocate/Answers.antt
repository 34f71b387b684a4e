use Rattle.std.proofs.Common.{◌≡◌, ◌∙◌, ◌-◌, ◌≤◌, ◌++◌, [], ap, arith, sym, subst, length, take, drop, w64}
use Rattle.std.proofs.lemmas.Int.{to_z-of_z}
use Rattle.card_model.specs.Allocation.{allocated, excess_rule, parts, pay}
use Rattle.card_model.specs.Entries.{at_least_zero}
use Rattle.card_segments.specs.Holdings.{holdings}
use Rattle.card_segments.specs.Parts.{AreParts, Ascend}
use Rattle.card_segments.proofs.Counted.{counted-ascends}
use Rattle.card_segments.proofs.HoldingLists.{holdings-ascend}
use Rattle.card_segments.proofs.PartFacts.{allocated-is, allocated-parts, at, least, written}
use Rattle.card_segments.proofs.allocation.allocate.Goals as goal

pub pay_by-first-requires-clause-ascending : goal.pay_by-first-requires-clause-ascending
pay_by-first-requires-clause-ascending c =
    rw (c.deref_mut.ensures.value, c.in_ok-list.ensures.items) (counted-ascends 0 (holdings [] c.args.s.now.balances c.args.ranks.now) (holdings-ascend [] 0 2 (drop 2 c.args.s.now.balances) (drop 2 c.args.ranks.now) (omega arith)))

pub of-requires : goal.of-requires
of-requires c =
    let mid = c.pay_by-first.new.holdings in
    let left = c.pay_by-credit.new.holdings in
    let n = c.in_ok-list.list.len in
    let items = c.in_ok-list.list.items in
    let minimum = c.at_least_zero-minimum.ensures ∙ ap at_least_zero (to_z-of_z w64 c.args.minimum_part c.ranges.minimum_part) in
    let amount = c.at_least_zero.ensures ∙ ap at_least_zero (to_z-of_z w64 c.args.amount c.ranges.amount) in
    let one : length mid ≡ length items = c.pay_by-first.auto.holdings ∙ ap length c.deref_mut.ensures.value in
    let size : length items ≡ n = sym (ap length c.deref_mut.ensures.value) ∙ c.deref_mut.ensures.len in
    let same = written n mid items one size in
    let lent : c.deref_mut-2.result.now ≡ mid = c.deref_mut-2.ensures.value ∙ same in
    let two : length left ≡ length mid = c.pay_by-credit.auto.holdings ∙ ap length lent in
    let back = c.deref.ensures.value ∙ (ap (λ us. take n (left ++ drop (length left) us)) same ∙ written n left mid two (one ∙ size)) in
    let is = allocated-is c.args.s.now.balances c.args.ranks.now c.at_least_zero-minimum.result c.at_least_zero.result c.pay_by-first.result c.pay_by-credit.result c.deref_mut.result.now mid left c.in_ok-parts_of.field-0.items
    (c.deref_mut.ensures.value ∙ c.in_ok-list.ensures.items) c.pay_by-first.ensures.paid
    (ap (λ us. pay excess_rule (c.at_least_zero.result - c.at_least_zero-minimum.result) (at us c.pay_by-first.result)) (sym lent) ∙ c.pay_by-credit.ensures.paid)
    (c.in_ok-parts_of.ensures ∙ ap (λ us. parts (at us c.pay_by-credit.result)) back) in
    let within : c.at_least_zero-minimum.result ≤ c.at_least_zero.result = omega (arith, minimum, amount, least c.args.minimum_part c.args.amount c.requires.within) in
    let whole = allocated-parts c.args.s.now.balances c.args.ranks.now c.at_least_zero-minimum.result c.at_least_zero.result c.in_ok-list.ensures.some within in
    subst (Ascend 0) (sym is) whole.ascending

pub returns-clause-parts : goal.returns-clause-parts
returns-clause-parts c =
    let mid = c.pay_by-first.new.holdings in
    let left = c.pay_by-credit.new.holdings in
    let n = c.in_ok-list.list.len in
    let items = c.in_ok-list.list.items in
    let minimum = c.at_least_zero-minimum.ensures ∙ ap at_least_zero (to_z-of_z w64 c.args.minimum_part c.ranges.minimum_part) in
    let amount = c.at_least_zero.ensures ∙ ap at_least_zero (to_z-of_z w64 c.args.amount c.ranges.amount) in
    let one : length mid ≡ length items = c.pay_by-first.auto.holdings ∙ ap length c.deref_mut.ensures.value in
    let size : length items ≡ n = sym (ap length c.deref_mut.ensures.value) ∙ c.deref_mut.ensures.len in
    let same = written n mid items one size in
    let lent : c.deref_mut-2.result.now ≡ mid = c.deref_mut-2.ensures.value ∙ same in
    let two : length left ≡ length mid = c.pay_by-credit.auto.holdings ∙ ap length lent in
    let back = c.deref.ensures.value ∙ (ap (λ us. take n (left ++ drop (length left) us)) same ∙ written n left mid two (one ∙ size)) in
    let is = allocated-is c.args.s.now.balances c.args.ranks.now c.at_least_zero-minimum.result c.at_least_zero.result c.pay_by-first.result c.pay_by-credit.result c.deref_mut.result.now mid left c.in_ok-parts_of.field-0.items
    (c.deref_mut.ensures.value ∙ c.in_ok-list.ensures.items) c.pay_by-first.ensures.paid
    (ap (λ us. pay excess_rule (c.at_least_zero.result - c.at_least_zero-minimum.result) (at us c.pay_by-first.result)) (sym lent) ∙ c.pay_by-credit.ensures.paid)
    (c.in_ok-parts_of.ensures ∙ ap (λ us. parts (at us c.pay_by-credit.result)) back) in
    let within : c.at_least_zero-minimum.result ≤ c.at_least_zero.result = omega (arith, minimum, amount, least c.args.minimum_part c.args.amount c.requires.within) in
    let whole = allocated-parts c.args.s.now.balances c.args.ranks.now c.at_least_zero-minimum.result c.at_least_zero.result c.in_ok-list.ensures.some within in
    c.of.ensures ∙ (is ∙ (ap (λ k. allocated k c.at_least_zero.result (holdings [] c.args.s.now.balances c.args.ranks.now)) minimum
    ∙ ap (λ k. allocated (at_least_zero c.args.minimum_part) k (holdings [] c.args.s.now.balances c.args.ranks.now)) amount))

pub returns-clause-whole : goal.returns-clause-whole
returns-clause-whole c =
    let mid = c.pay_by-first.new.holdings in
    let left = c.pay_by-credit.new.holdings in
    let n = c.in_ok-list.list.len in
    let items = c.in_ok-list.list.items in
    let minimum = c.at_least_zero-minimum.ensures ∙ ap at_least_zero (to_z-of_z w64 c.args.minimum_part c.ranges.minimum_part) in
    let amount = c.at_least_zero.ensures ∙ ap at_least_zero (to_z-of_z w64 c.args.amount c.ranges.amount) in
    let one : length mid ≡ length items = c.pay_by-first.auto.holdings ∙ ap length c.deref_mut.ensures.value in
    let size : length items ≡ n = sym (ap length c.deref_mut.ensures.value) ∙ c.deref_mut.ensures.len in
    let same = written n mid items one size in
    let lent : c.deref_mut-2.result.now ≡ mid = c.deref_mut-2.ensures.value ∙ same in
    let two : length left ≡ length mid = c.pay_by-credit.auto.holdings ∙ ap length lent in
    let back = c.deref.ensures.value ∙ (ap (λ us. take n (left ++ drop (length left) us)) same ∙ written n left mid two (one ∙ size)) in
    let is = allocated-is c.args.s.now.balances c.args.ranks.now c.at_least_zero-minimum.result c.at_least_zero.result c.pay_by-first.result c.pay_by-credit.result c.deref_mut.result.now mid left c.in_ok-parts_of.field-0.items
    (c.deref_mut.ensures.value ∙ c.in_ok-list.ensures.items) c.pay_by-first.ensures.paid
    (ap (λ us. pay excess_rule (c.at_least_zero.result - c.at_least_zero-minimum.result) (at us c.pay_by-first.result)) (sym lent) ∙ c.pay_by-credit.ensures.paid)
    (c.in_ok-parts_of.ensures ∙ ap (λ us. parts (at us c.pay_by-credit.result)) back) in
    let within : c.at_least_zero-minimum.result ≤ c.at_least_zero.result = omega (arith, minimum, amount, least c.args.minimum_part c.args.amount c.requires.within) in
    let whole = allocated-parts c.args.s.now.balances c.args.ranks.now c.at_least_zero-minimum.result c.at_least_zero.result c.in_ok-list.ensures.some within in
    subst (λ k. AreParts c.args.s.now.balances k c.of.result) amount (subst (AreParts c.args.s.now.balances c.at_least_zero.result) (sym (c.of.ensures ∙ is)) whole)
