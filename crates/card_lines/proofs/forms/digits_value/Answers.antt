use Rattle.std.proofs.Common.{drop, arith, sym, ◌∙◌}
use Rattle.card_lines.proofs.NumberLemmas.{value_small, value_grows, value_step, digit_at}
use Rattle.card_lines.proofs.forms.digits_value.Goals as goal

pub overflow_mul-value : goal.overflow_mul-value
overflow_mul-value c =
    let small = value_small c.args.text.now c.requires.digits c.requires.length in
    let grows = value_grows c.loop-b.value (drop c.loop-b.b-index c.args.text.now) in
    omega (arith, small.1, grows, c.loop-b.invariant)

pub overflow_sub-value : goal.overflow_sub-value
overflow_sub-value c =
    let digit = digit_at c.args.text.now c.loop-b.b-index c.requires.digits (omega arith) in
    omega (arith, digit)

pub overflow_add-value : goal.overflow_add-value
overflow_add-value c =
    let small = value_small c.args.text.now c.requires.digits c.requires.length in
    let grows = value_grows c.loop-b.value (drop c.loop-b.b-index c.args.text.now) in
    let digit = digit_at c.args.text.now c.loop-b.b-index c.requires.digits (omega arith) in
    omega (arith, small.1, grows, c.loop-b.invariant, digit)

pub loop-b-preserved : goal.loop-b-preserved
loop-b-preserved c = sym (value_step c.loop-b.value c.args.text.now c.loop-b.b-index (omega arith)) ∙ c.loop-b.invariant

pub returns-clause-bound : goal.returns-clause-bound
returns-clause-bound c =
    let small = value_small c.args.text.now c.requires.digits c.requires.length in
    let grows = value_grows c.loop-b.value (drop c.loop-b.b-index c.args.text.now) in
    omega (arith, small.0, grows, c.loop-b.invariant)
