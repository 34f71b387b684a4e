use Rattle.std.proofs.Common.{ℕ, ◌∙◌, ◌&&◌, sym, ap, arith, eqb, is_le, nat_cmp}
use Rattle.card_events.specs.Civil.{date_of}
use Rattle.card_model.specs.Cycles.{Cycle}
use Rattle.card_statement.proofs.YearSteps.{told_by_both}
use Rattle.card_statement.proofs.years.in_year.Goals as goal

pub returns-then-le : goal.returns-then-le
returns-then-le c =
    let day = c.cycle.inside.closing in
    let here = ap (λ (x : Cycle). x.closing) c.cycle.view_is in
    let both = told_by_both day c.args._closing c.args.year.now.first c.args.year.now.last (omega (arith, c.number.ensures.last)) (omega (arith, c.number-2.ensures.last)) c.requires in
    let begins = sym c.if-le.true ∙ c.le.ensures in
    c.le-then-le.ensures
    ∙ (ap (λ t. t && is_le (nat_cmp day c.args.year.now.last)) begins ∙ (both ∙ ap (λ (n : ℕ). eqb (date_of n).year (date_of c.args._closing).year) here))

pub returns-else-le : goal.returns-else-le
returns-else-le c =
    let day = c.cycle.inside.closing in
    let here = ap (λ (x : Cycle). x.closing) c.cycle.view_is in
    let both = told_by_both day c.args._closing c.args.year.now.first c.args.year.now.last (omega (arith, c.number.ensures.last)) (omega (arith, c.number-2.ensures.last)) c.requires in
    let not = sym c.if-le.false ∙ c.le.ensures in
    c.if-le.false
    ∙ (ap (λ t. t && is_le (nat_cmp day c.args.year.now.last)) not ∙ (both ∙ ap (λ (n : ℕ). eqb (date_of n).year (date_of c.args._closing).year) here))
