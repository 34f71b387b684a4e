use Rattle.std.proofs.Common.{◌≡◌, ◌+◌, ◌-◌, ◌*◌, ◌<◌, ◌^◌, true, false, ltb, drop, length, rules, to_z, of_z, w64, ℕ, ℤ, ◌-ℤ◌, subst, sym, ap, ◌∙◌, arith, FitsSigned, refl}
use Rattle.std.proofs.lemmas.Int.{to_z-of_z}
use Rattle.card_model.specs.Entries.{at_least_zero, balance}
use Rattle.card_segments.specs.Balances.{IsWithin}
use Rattle.card_segments.proofs.SumsBack.{cents-within}
use Rattle.card_statement.specs.Standing.{day_behind, is_owed_between}
use Rattle.card_statement.proofs.InOrder.{at-end, balance-back, behind-first, between-back, begins-back, one-back, reaches, room-back}
use Rattle.card_statement.proofs.standing.is_owed_between.Goals as goal
use mir.Syntax.{w128}

pub returns-then-is_some : goal.returns-then-is_some
returns-then-is_some c =
    let left = to_z w64 (of_z w64 c.args.left) in
    let es = c.args.entries.now in
    let wide : FitsSigned w128 c.from-sum.result = record { sfits = c.from-sum.type_inv } in
    let same : to_z w128 (of_z w128 c.from-sum.result) ≡ left = to_z-of_z w128 c.from-sum.result wide ∙ c.from-sum.ensures in
    let owed : ltb 0 (at_least_zero left) ≡ true = ap (λ (z : ℤ). ltb 0 (at_least_zero z)) (sym same) ∙ (sym c.is_some.ensures ∙ c.if-is_some.true) in
    sym (reaches left c.args.segment c.args.first 0 es (length es) (at-end left c.args.segment c.args.first es true owed (length es) refl))
    ∙ ap (λ (z : ℤ). is_owed_between z c.args.segment c.args.first 0 es) (to_z-of_z w64 c.args.left c.ranges.left)

pub loop-place-init : goal.loop-place-init
loop-place-init c =
    let left = to_z w64 (of_z w64 c.args.left) in
    let es = c.args.entries.now in
    let wide : FitsSigned w128 c.from-sum.result = record { sfits = c.from-sum.type_inv } in
    let same : to_z w128 (of_z w128 c.from-sum.result) ≡ left = to_z-of_z w128 c.from-sum.result wide ∙ c.from-sum.ensures in
    let no : ltb 0 (at_least_zero left) ≡ false = ap (λ (z : ℤ). ltb 0 (at_least_zero z)) (sym same) ∙ (sym c.is_some.ensures ∙ c.if-is_some.false) in
    let within = cents-within c.args.left c.ranges.left in
    record {
      value = same ∙ begins-back left c.args.segment es (length es) refl;
      bound = subst (IsWithin (2 ^ 63 + (length es - length es) * 2 ^ 63)) (sym (same ∙ to_z-of_z w64 c.args.left c.ranges.left)) (room-back (length es) c.args.left within);
      none = at-end left c.args.segment c.args.first es false no (length es) refl;
    }

pub returns-then-is_owed_before : goal.returns-then-is_owed_before
returns-then-is_owed_before c =
    let es = c.args.entries.now in
    let s = c.args.segment in
    let first = c.args.first in
    let i = c.loop-place.place in
    let p = i - 1 in
    let next : i ≡ p + 1 = omega (arith, c.loop-place-test.true) in
    let below : p < length es = search rules in
    let e = c.index-entries-place.result in
    let left = to_z w64 (of_z w64 c.args.left) in
    let sum = to_z w128 c.loop-place.sum-bits in
    let more = c.moved_on.result in
    let less = c.less-sum.result in
    let wide : FitsSigned w128 less = record { sfits = c.less-sum.type_inv } in
    let few : FitsSigned w64 more = record { sfits = c.moved_on.type_inv } in
    let same : to_z w128 (of_z w128 less) ≡ less = to_z-of_z w128 less wide in
    let is : to_z w128 (of_z w128 less) ≡ sum -ℤ more = same ∙ (c.less-sum.ensures.value ∙ ap (λ (x : ℤ). sum -ℤ x) (to_z-of_z w64 more few)) in
    let before : sum ≡ left -ℤ balance s (drop (p + 1) es) = c.loop-place.invariant.value ∙ ap (λ n. left -ℤ balance s (drop n es)) next in
    let value = balance-back left sum more (to_z w128 (of_z w128 less)) s es p e below c.index-entries-place.is before c.moved_on.ensures is in
    let shows = sym c.is_owed_before.ensures ∙ c.if-is_owed_before.true in
    let none : is_owed_between left s first (day_behind 0 es (p + 1)) (drop (p + 1) es) ≡ false = ap (λ n. is_owed_between left s first (day_behind 0 es n) (drop n es)) (sym next) ∙ c.loop-place.invariant.none in
    let here = between-back left (to_z w128 (of_z w128 less)) s first es p e true false below c.index-entries-place.is value shows none in
    sym (reaches left s first 0 es p here) ∙ ap (λ (z : ℤ). is_owed_between z s first 0 es) (to_z-of_z w64 c.args.left c.ranges.left)

pub loop-place-preserved : goal.loop-place-preserved
loop-place-preserved c =
    let es = c.args.entries.now in
    let s = c.args.segment in
    let first = c.args.first in
    let i = c.loop-place.place in
    let p = i - 1 in
    let next : i ≡ p + 1 = omega (arith, c.loop-place-test.true) in
    let below : p < length es = search rules in
    let e = c.index-entries-place.result in
    let left = to_z w64 (of_z w64 c.args.left) in
    let sum = to_z w128 c.loop-place.sum-bits in
    let more = c.moved_on.result in
    let less = c.less-sum.result in
    let wide : FitsSigned w128 less = record { sfits = c.less-sum.type_inv } in
    let few : FitsSigned w64 more = record { sfits = c.moved_on.type_inv } in
    let same : to_z w128 (of_z w128 less) ≡ less = to_z-of_z w128 less wide in
    let is : to_z w128 (of_z w128 less) ≡ sum -ℤ more = same ∙ (c.less-sum.ensures.value ∙ ap (λ (x : ℤ). sum -ℤ x) (to_z-of_z w64 more few)) in
    let before : sum ≡ left -ℤ balance s (drop (p + 1) es) = c.loop-place.invariant.value ∙ ap (λ n. left -ℤ balance s (drop n es)) next in
    let value = balance-back left sum more (to_z w128 (of_z w128 less)) s es p e below c.index-entries-place.is before c.moved_on.ensures is in
    let shows = sym c.is_owed_before.ensures ∙ c.if-is_owed_before.false in
    let none : is_owed_between left s first (day_behind 0 es (p + 1)) (drop (p + 1) es) ≡ false = ap (λ n. is_owed_between left s first (day_behind 0 es n) (drop n es)) (sym next) ∙ c.loop-place.invariant.none in
    record {
      value = value;
      bound = subst (IsWithin (2 ^ 63 + (length es - p) * 2 ^ 63)) (sym same) (one-back (length es) p i less (sym next) (omega (arith, next, below)) (c.less-sum.ensures.bound (2 ^ 63 + (length es - i) * 2 ^ 63) c.loop-place.invariant.bound));
      none = between-back left (to_z w128 (of_z w128 less)) s first es p e false false below c.index-entries-place.is value shows none;
    }

pub returns : goal.returns
returns c =
    let es = c.args.entries.now in
    let s = c.args.segment in
    let first = c.args.first in
    let left = to_z w64 (of_z w64 c.args.left) in
    let zero : c.loop-place.place ≡ 0 = omega (arith, c.loop-place-test.false) in
    let none : is_owed_between left s first (day_behind 0 es 0) es ≡ false = ap (λ n. is_owed_between left s first (day_behind 0 es n) (drop n es)) (sym zero) ∙ c.loop-place.invariant.none in
    sym (ap (λ (d : ℕ). is_owed_between left s first d es) (sym (behind-first es)) ∙ none) ∙ ap (λ (z : ℤ). is_owed_between z s first 0 es) (to_z-of_z w64 c.args.left c.ranges.left)
