use Rattle.std.proofs.Common.{◌≡◌, ◌≤◌, length, sym, ap, ◌∙◌, arith}
use Rattle.std.proofs.lemmas.Bool.{eq-eqb, ne_eqb}
use Rattle.card_model.specs.Cycles.{IssuedRow}
use Rattle.card_daily.proofs.Find.{ends, fails, passes}
use Rattle.card_daily.proofs.inputs.row_for.Goals as goal

pub returns-then-row-cycle : goal.returns-then-row-cycle
returns-then-row-cycle c =
    let r = c.row-item.result in
    let same : r.cycle ≡ c.args.cycle = sym (ap (λ (r : IssuedRow). r.cycle) c.row.view_is) ∙ c.if-row-cycle.true in
    sym (c.loop-row.invariant ∙ passes c.args.cycle c.loop-row.row-index c.args.issued.now r c.loop-row-test.true c.row-item.is (eq-eqb r.cycle c.args.cycle same))

pub loop-row-preserved : goal.loop-row-preserved
loop-row-preserved c =
    let r = c.row-item.result in
    let other : r.cycle ≡ c.args.cycle → ⊥ = λ e. c.if-row-cycle.false (ap (λ (r : IssuedRow). r.cycle) c.row.view_is ∙ e) in
    c.loop-row.invariant ∙ fails c.args.cycle c.loop-row.row-index c.args.issued.now r c.loop-row-test.true c.row-item.is (ne_eqb r.cycle c.args.cycle other)

pub returns : goal.returns
returns c =
    let past : length c.args.issued.now ≤ c.loop-row.row-index = omega (arith, c.loop-row-test.false) in
    sym (c.loop-row.invariant ∙ ends c.args.cycle c.loop-row.row-index c.args.issued.now past)
