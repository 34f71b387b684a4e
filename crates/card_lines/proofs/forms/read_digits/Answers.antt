use Rattle.std.proofs.Common.{ℕ, ◌<◌, ◌≤◌, ◌^◌, arith}
use Rattle.std.proofs.Math.Nat.{pow-le-pow_right}
use Rattle.card_lines.proofs.forms.read_digits.Goals as goal

-- before a twelfth digit
below_the_last : (v i : ℕ) → v < 10 ^ i → i ≤ 11 → v < 100_000_000_000
below_the_last v i below few =
    let most : 10 ^ i ≤ 10 ^ 11 = pow-le-pow_right (omega arith) few in
    omega (arith, below, most)

pub overflow_mul-value : goal.overflow_mul-value
overflow_mul-value c =
    let small = below_the_last c.loop-b.value c.loop-b.b-index c.loop-b.invariant.below (omega arith) in
    omega (arith, small)

pub overflow_add-value : goal.overflow_add-value
overflow_add-value c =
    let small = below_the_last c.loop-b.value c.loop-b.b-index c.loop-b.invariant.below (omega arith) in
    omega (arith, small, (c.type_inv.text c.loop-b.b-index).fits)
