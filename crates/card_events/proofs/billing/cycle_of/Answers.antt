use Rattle.std.proofs.Common.{◌≡◌, ◌+◌, ◌-◌, arith, ℕ}
use Rattle.card_events.specs.Billing.{cycle_of}
use Rattle.card_events.specs.Months.{first_month}
use Rattle.card_events.proofs.Cycles.{IsAnchor, cycle_is, cycle_around, cycle_from_one}
use Rattle.card_events.proofs.billing.cycle_of.Goals as goal

anchored : (c : goal.After-month_from-2) → IsAnchor c.args.a
anchored c = record { first = c.month_from-2.ensures.first; last = c.month_from-2.ensures.last; low = c.requires.close_day.0; high = c.requires.close_day.1 }

counted : (c : goal.After-month_from-2) → cycle_of c.args.a c.args.day + c.month_from-2.result ≡ c.month_from.result + 1
unfolding first_month
counted c =
    let all = cycle_is c.args.a (anchored c) c.args.day c.requires.opened (omega (arith, c.requires.last)) in
    omega (arith, all, c.month_from.ensures.value, c.month_from-2.ensures.value)

pub overflow_sub-result : goal.overflow_sub-result
overflow_sub-result c = omega (arith, counted c)

pub returns-clause-value : goal.returns-clause-value
returns-clause-value c = omega (arith, counted c)

pub returns-clause-from_one : goal.returns-clause-from_one
returns-clause-from_one c = omega (arith, counted c, cycle_from_one c.args.a c.args.day)

pub returns-clause-after_the_last : goal.returns-clause-after_the_last
returns-clause-after_the_last c =
    let k : ℕ = c.month_from.result + 1 - c.month_from-2.result in
    (cycle_around c.args.a (anchored c) c.args.day k c.requires.opened (omega (arith, c.requires.last)) (omega (arith, counted c))).0

pub returns-clause-up_to_its_own : goal.returns-clause-up_to_its_own
returns-clause-up_to_its_own c =
    let k : ℕ = c.month_from.result + 1 - c.month_from-2.result in
    (cycle_around c.args.a (anchored c) c.args.day k c.requires.opened (omega (arith, c.requires.last)) (omega (arith, counted c))).1
