use Rattle.std.proofs.Common.{refl, sym, ◌∙◌, arith}
use Rattle.std.proofs.lemmas.List.Sums.{sum_by_more}
use Rattle.card_closing.specs.Rows.{bearing}
use Rattle.card_closing.specs.Runs.{spread}
use Rattle.card_closing.specs.declared.runs.Run.{Run}
use Rattle.card_closing.proofs.Sums.{sum_more}
use Rattle.card_closing.proofs.runs.balances_sum.Goals as goal

pub loop-run-init : goal.loop-run-init
unfolding spread
loop-run-init c = record { at = omega arith; summed = refl; small = omega arith }

pub loop-run-preserved : goal.loop-run-preserved
loop-run-preserved c =
    let i = c.loop-run.run-index in
    let runs = c.args.runs.now in
    let run = c.run-item.result in
    let longer = sum_by_more (λ (r : Run). r.days) runs i run c.loop-run-test.true in
    let more = rw (← c.run-item.is) at (sum_more (bearing c.args.case.now c.args.repaid.now) c.args.first i runs run c.loop-run-test.true) in
    let days = rw (← c.run-item.is) at longer in
    record {
      at = omega (arith, days, c.loop-run.invariant.at);
      summed = sym (more ∙ rw (← c.loop-run.invariant.summed, ← c.loop-run.invariant.at, ← c.bearing-sum.ensures.sum) refl);
      small = omega (arith, days, c.loop-run.invariant.small, c.bearing-sum.ensures.bound);
    }
