use Rattle.std.proofs.Common.{ℕ, ◌*◌, ◌≤◌, refl, sym, ◌∙◌, arith, mul-le-mul}
use Rattle.std.proofs.lemmas.List.Sums.{sum_by_more}
use Rattle.card_model.specs.Limits.{balance_limit}
use Rattle.card_events.specs.Money.{daily}
use Rattle.card_closing.specs.Rows.{DayRow, bearing}
use Rattle.card_closing.specs.Runs.{spread}
use Rattle.card_closing.specs.declared.runs.Run.{Run}
use Rattle.card_closing.proofs.Sums.{rate_out, sum_more}
use Rattle.card_closing.proofs.runs.rate_sum.Goals as goal

pub loop-run-init : goal.loop-run-init
unfolding spread
loop-run-init c = record { at = omega arith; summed = refl; small = omega arith }

-- balances of some days at most, times a rate
product : (balances days rate : ℕ) → balances ≤ days * balance_limit → rate ≤ 2739452 → balances * rate ≤ days * 2739452 * balance_limit
product balances days rate h k = let le = mul-le-mul h k in omega (arith, le)

pub loop-run-preserved : goal.loop-run-preserved
loop-run-preserved c =
    let i = c.loop-run.run-index in
    let runs = c.args.runs.now in
    let run = c.run-item.result in
    let longer = sum_by_more (λ (r : Run). r.days) runs i run c.loop-run-test.true in
    let days = rw (← c.run-item.is) at longer in
    let more = rw (← c.run-item.is) at (sum_more (λ (r : DayRow). bearing c.args.case.now c.args.repaid.now r * daily r.rate) c.args.first i runs run c.loop-run-test.true) in
    let one = rate_out (bearing c.args.case.now c.args.repaid.now) c.loop-run.day run.days run.balance run.rate in
    let part = product c.bearing-balances.result run.days c.daily.result c.bearing-balances.ensures.bound c.daily.ensures.bound in
    record {
      at = omega (arith, days, c.loop-run.invariant.at);
      summed = sym (more ∙ rw (← c.loop-run.invariant.summed, ← c.loop-run.invariant.at, one, ← c.bearing-balances.ensures.sum, ← c.daily.ensures.value) refl);
      small = omega (arith, days, c.loop-run.invariant.small, part);
    }
