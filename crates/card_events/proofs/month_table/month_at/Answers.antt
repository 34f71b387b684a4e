use Rattle.std.proofs.Common.{◌≡◌, ◌+◌, ◌-◌, ◌*◌, ◌/◌, ℕ, ap, arith}
use Rattle.card_events.specs.Months.{day_in_month}
use Rattle.card_events.proofs.Starts.{has_begun, has_not_begun, at_first, at_end}
use Rattle.card_events.proofs.month_table.month_at.Goals as goal

pub overflow_sub-result : goal.overflow_sub-result
overflow_sub-result c =
    let near : ℕ = c.args.days * 4096 / 124_672 in
    let not_first : ¬ (near ≡ 0) = λ e. omega (arith, c.start_of.ensures, at_first near e) in
    omega (arith, not_first)

pub returns-then-start_of-days-clause-first : goal.returns-then-start_of-days-clause-first
returns-then-start_of-days-clause-first c =
    let near : ℕ = c.args.days * 4096 / 124_672 in
    let not_first : ¬ (near ≡ 0) = λ e. omega (arith, c.start_of.ensures, at_first near e) in
    has_begun (near - 1) c.args.days (omega arith) (omega (arith, not_first))

pub returns-then-start_of-days-clause-last : goal.returns-then-start_of-days-clause-last
returns-then-start_of-days-clause-last c =
    let near : ℕ = c.args.days * 4096 / 124_672 in
    let not_first : ¬ (near ≡ 0) = λ e. omega (arith, c.start_of.ensures, at_first near e) in
    let back : 24_132 + near ≡ 24_132 + (near - 1 + 1) = omega (arith, not_first) in
    omega (arith, c.start_of.ensures, ap (λ i. day_in_month i 1) back)

pub returns-then-start_of-days-2-clause-month : goal.returns-then-start_of-days-2-clause-month
returns-then-start_of-days-2-clause-month c =
    let next : ℕ = c.args.days * 4096 / 124_672 + 1 in
    let not_end : ¬ (next ≡ 1104) = λ e. omega (arith, c.start_of-else-start_of-days.ensures, at_end next e) in
    omega (arith, not_end)

pub returns-then-start_of-days-2-clause-last : goal.returns-then-start_of-days-2-clause-last
returns-then-start_of-days-2-clause-last c =
    let next : ℕ = c.args.days * 4096 / 124_672 + 1 in
    let not_end : ¬ (next ≡ 1104) = λ e. omega (arith, c.start_of-else-start_of-days.ensures, at_end next e) in
    has_not_begun (next + 1) c.args.days (omega (arith, not_end)) (omega arith)
