use Rattle.std.proofs.Common.{◌≡◌, length, ◌+◌, ◌*◌, ◌<◌, ◌^◌, rules, to_z, of_z, w64, ℤ, ◌-ℤ◌, subst, sym, ap, ◌∙◌, FitsSigned}
use Rattle.std.proofs.lemmas.Int.{to_z-of_z}
use Rattle.card_segments.proofs.SumsBack.{cents-within}
use Rattle.card_segments.specs.Balances.{IsWithin}
use Rattle.card_statement.proofs.DayBalances.{begins, goes-on, one-further, room}
use Rattle.card_statement.proofs.standing.owed_then.Goals as goal
use mir.Syntax.{w128}

pub loop-entry-init : goal.loop-entry-init
loop-entry-init c =
    let left = to_z w64 (of_z w64 c.args.left) in
    let wide : FitsSigned w128 c.from-sum.result = record { sfits = c.from-sum.type_inv } in
    let same : to_z w128 (of_z w128 c.from-sum.result) ≡ left = to_z-of_z w128 c.from-sum.result wide ∙ c.from-sum.ensures in
    let within = cents-within c.args.left c.ranges.left in
    record { value = same ∙ begins left c.args.segment c.args.day; bound = subst (IsWithin (2 ^ 63)) (sym (same ∙ to_z-of_z w64 c.args.left c.ranges.left)) within }

pub less-sum-requires : goal.less-sum-requires
less-sum-requires c =
    let few : length c.args.entries.now < 2 ^ 63 = search rules in
    record { room = room c.loop-entry.entry-index (length c.args.entries.now) (to_z w128 c.loop-entry.sum-bits) c.loop-entry-test.true few c.loop-entry.invariant.bound }

pub loop-entry-preserved : goal.loop-entry-preserved
loop-entry-preserved c =
    let i = c.loop-entry.entry-index in
    let left = to_z w64 (of_z w64 c.args.left) in
    let sum = to_z w128 c.loop-entry.sum-bits in
    let more = c.moved_by.result in
    let next = c.less-sum.result in
    let wide : FitsSigned w128 next = record { sfits = c.less-sum.type_inv } in
    let few : FitsSigned w64 more = record { sfits = c.moved_by.type_inv } in
    let same : to_z w128 (of_z w128 next) ≡ next = to_z-of_z w128 next wide in
    let is : to_z w128 (of_z w128 next) ≡ sum -ℤ more = same ∙ (c.less-sum.ensures.value ∙ ap (λ (x : ℤ). sum -ℤ x) (to_z-of_z w64 more few)) in
    record {
      value =
          goes-on left sum more (to_z w128 (of_z w128 next)) c.args.segment c.args.day c.args.entries.now i c.entry-item.result c.loop-entry-test.true c.entry-item.is c.loop-entry.invariant.value
          c.moved_by.ensures is;
      bound = subst (IsWithin (2 ^ 63 + (i + 1) * 2 ^ 63)) (sym same) (one-further (2 ^ 63) i next (c.less-sum.ensures.bound (2 ^ 63 + i * 2 ^ 63) c.loop-entry.invariant.bound));
    }
