use Rattle.std.proofs.Common.{◌≡◌, ℕ, ◌+◌, ◌*◌, ◌≤◌, ℤ, pos, ◌≤ℤ◌, ap, ◌∙◌, arith, mul-le-mul}
use Rattle.std.proofs.lemmas.Int.{ints, to_z-of_z}
use Rattle.std.specs.Prelude.{unsigned_abs}
use mir.Syntax.{w64}
use Rattle.card_model.specs.Limits.{balance_limit}
use Rattle.card_closing.specs.Accruals.{Accrued}
use Rattle.card_closing.proofs.accrual.Accrual.accrue.Goals as goal

size : (z : ℤ) → pos 0 ≤ℤ z → z ≤ℤ pos balance_limit → unsigned_abs z ≤ balance_limit
size z low high = omega (arith, ints)

bound : (sum days more balance rate : ℕ) → sum ≤ days * 2739452 * balance_limit → balance ≤ balance_limit → rate ≤ 2739452 → sum + more * balance * rate ≤ (days + more) * 2739452 * balance_limit
bound sum days more balance rate h k l =
    let product : balance * rate ≤ balance_limit * 2739452 = mul-le-mul k l in
    let times : more * (balance * rate) ≤ more * (balance_limit * 2739452) = mul-le-mul (same more) product in
    let grouped : more * balance * rate ≡ more * (balance * rate) = omega arith in
    omega (arith, times, grouped)
  where
    same : (n : ℕ) → n ≤ n
    same n = omega arith

pub invariant_of-self : goal.invariant_of-self
invariant_of-self c =
    let same = c.unsigned_abs.ensures.value ∙ ap unsigned_abs (to_z-of_z w64 c.args.balance c.ranges.balance) in
    let few = ap (λ (a : Accrued). a.days) c.self.view_is in (
      omega (arith, few, c.requires.few),
      bound c.self.inside.sum c.self.inside.days c.args.days c.unsigned_abs.result c.daily.result c.self.invariant.1 (rw same (size c.args.balance c.requires.low c.requires.high)) c.daily.ensures.bound,
    )
