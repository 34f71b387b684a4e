use Rattle.std.proofs.Common.{◌≡◌, ℕ, ◌+◌, ◌-◌, ◌≤◌, refl, sym, ap, ◌∙◌, arith}
use Rattle.card_model.specs.Limits.{balance_limit}
use Rattle.card_closing.specs.Rows.{DayRow, repaid_later}
use Rattle.card_closing.proofs.Pieces.{bound_more, equal_sum, piece_more}
use Rattle.card_closing.proofs.runs.lowered_days.Goals as goal

pub loop-day-preserved : goal.loop-day-preserved
loop-day-preserved c =
    let run = c.args.run.now in
    let a = c.args.first in
    let m = c.loop-day.day in
    let n = c.next_repaid-next.result in
    let left : DayRow → ℕ = λ (r : DayRow). r.balance - repaid_later c.args.repaid.now r.day c.args.due in
    let low = c.loop-day.invariant.from in
    let after = c.next_repaid-next.ensures.after in
    let more = piece_more left a m n run.balance run.rate low (omega (arith, after)) in
    let piece =
    equal_sum left c.lowered.result m (n - m) run.balance run.rate
    (λ d from to. ap (λ x. run.balance - x) (c.next_repaid-next.ensures.same d from (omega (arith, to, after))) ∙ sym c.lowered.ensures) in
    let at_most : c.lowered.result ≤ balance_limit = omega (arith, c.lowered.ensures, c.requires.balance) in
    let count : n - a ≡ m - a + (n - m) = omega (arith, low, after) in
    record {
      from = omega (arith, low, after);
      to = c.next_repaid-next.ensures.within;
      summed = sym (more ∙ rw (← c.loop-day.invariant.summed, piece) refl);
      small = rw count (bound_more c.loop-day.sum (m - a) (n - m) c.lowered.result balance_limit c.loop-day.invariant.small at_most);
    }
