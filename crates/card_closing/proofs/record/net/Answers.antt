use Rattle.std.proofs.Common.{ap, ◌∙◌, arith, w64, ◌-ℤ◌}
use Rattle.std.proofs.lemmas.Int.{to_z-of_z}
use Rattle.card_segments.specs.Balances.{total}
use Rattle.card_closing.proofs.ByNumber.{are-fit}
use Rattle.card_closing.proofs.record.net.Goals as goal

pub overflow_sub-result : goal.overflow_sub-result
overflow_sub-result c =
    let all = c.len-count.ensures in
    let f = are-fit c.args.segments.now.balances c.owed.result c.held.result (omega (arith, all.balances, all.few)) c.requires.small c.owed.ensures c.held.ensures.value in
    rw (to_z-of_z w64 c.owed.result f.owed, to_z-of_z w64 c.held.result f.held) f.rest

pub returns-clause-value : goal.returns-clause-value
returns-clause-value c =
    let all = c.len-count.ensures in
    let f = are-fit c.args.segments.now.balances c.owed.result c.held.result (omega (arith, all.balances, all.few)) c.requires.small c.owed.ensures c.held.ensures.value in
    rw (to_z-of_z w64 c.owed.result f.owed, to_z-of_z w64 c.held.result f.held, to_z-of_z w64 (c.owed.result -ℤ c.held.result) f.rest)
    (ap (λ z. z -ℤ c.held.result) c.owed.ensures ∙ ap (λ z. total c.args.segments.now.balances -ℤ z) c.held.ensures.value)

pub returns-clause-size : goal.returns-clause-size
returns-clause-size c =
    let all = c.len-count.ensures in
    let f = are-fit c.args.segments.now.balances c.owed.result c.held.result (omega (arith, all.balances, all.few)) c.requires.small c.owed.ensures c.held.ensures.value in
    rw (to_z-of_z w64 c.owed.result f.owed, to_z-of_z w64 c.held.result f.held, to_z-of_z w64 (c.owed.result -ℤ c.held.result) f.rest) f.within
