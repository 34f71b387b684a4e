use Rattle.std.proofs.Common.{◌≤◌, ℤ, pos, ◌≤ℤ◌, length, refl, ap, ◌∙◌, arith}
use Rattle.std.proofs.lemmas.Int.{ints, to_z-of_z}
use Rattle.std.specs.Prelude.{unsigned_abs}
use mir.Syntax.{w64}
use Rattle.card_model.specs.Limits.{balance_limit}
use Rattle.card_closing.specs.Rows.{Rows}
use Rattle.card_closing.proofs.Spreads.{length-spread, runs_push, spread_push}
use Rattle.card_closing.proofs.rows.CycleRows.row.Goals as goal

pub lengthen-requires-clause-few : goal.lengthen-requires-clause-few
lengthen-requires-clause-few c =
    let days = ap (λ (r : Rows). length r.days) c.self.view_is in
    omega (arith, days, c.requires.few, length-spread c.self.inside.first c.self.inside.runs.items)

size : (z : ℤ) → pos 0 ≤ℤ z → z ≤ℤ pos balance_limit → unsigned_abs z ≤ balance_limit
size z low high = omega (arith, ints)

pub returns-then-lengthen-clause-ok : goal.returns-then-lengthen-clause-ok
returns-then-lengthen-clause-ok c =
    let same = c.unsigned_abs.ensures.value ∙ ap unsigned_abs (to_z-of_z w64 c.args.balance c.ranges.balance) in
    let longer = c.if-lengthen.ensures.lengthened refl c.self.inside.first in
    rw (longer, same, ← length-spread c.self.inside.first c.self.inside.runs.items, ← c.self.view_is) refl

pub invariant_of-self-2 : goal.invariant_of-self-2
invariant_of-self-2 c =
    let same = c.unsigned_abs.ensures.value ∙ ap unsigned_abs (to_z-of_z w64 c.args.balance c.ranges.balance) in
    let days = ap (λ (r : Rows). length r.days) c.self.view_is in
    let kept = c.if-lengthen.ensures.other refl in
    rw (c.in_ok-push.ensures.items, kept) (runs_push c.self.inside.runs.items (record { days = c.args.days; balance = c.unsigned_abs.result; rate = c.args.rate }) c.self.invariant
    (rw same (size c.args.balance c.requires.low c.requires.high)) (omega (arith, days, c.requires.few, length-spread c.self.inside.first c.self.inside.runs.items)))

pub returns-clause-ok : goal.returns-clause-ok
returns-clause-ok c =
    let same = c.unsigned_abs.ensures.value ∙ ap unsigned_abs (to_z-of_z w64 c.args.balance c.ranges.balance) in
    let kept = c.if-lengthen.ensures.other refl in
    rw (c.in_ok-push.ensures.items, kept, spread_push c.self.inside.first c.self.inside.runs.items (record { days = c.args.days; balance = c.unsigned_abs.result; rate = c.args.rate }), same, ← length-spread c.self.inside.first c.self.inside.runs.items, ← c.self.view_is) refl
