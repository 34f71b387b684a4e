use Rattle.std.proofs.Common.{◌≡◌, ◌-◌, ◌++◌, length, refl, replicate, ap, ◌∙◌, arith}
use Rattle.card_events.specs.declared.kept.Kept.{Kept}
use Rattle.std.specs.Prelude.{List, ℕ}
use Rattle.card_closing.specs.Accruals.{Accrued, nothing_accrued}
use Rattle.card_rates.specs.RateBooks.{Rates, rates_of}
use Rattle.card_book.proofs.StateParts.{rates-count, rows-each}
use Rattle.card_book.proofs.earlier.renewed_state.Goals as goal

pub returns-clause-rates : goal.returns-clause-rates
returns-clause-rates c =
    let g = c.args.inputs.now in
    c.in_ok-renewed.ensures g.shared.holidays ∙ ap (λ (h : List Kept). rates_of g.shared.holidays h c.args.state.now.rates.penalties) c.posts.ensures.history

pub returns-clause-rows : goal.returns-clause-rows
returns-clause-rows c =
    let g = c.args.inputs.now in
    let all = c.len.ensures.segments ∙ ap length c.in_ok-segments.ensures.segments in
    let rated = rates-count g.shared.holidays g.history in
    let same = ap (λ (r : Rates). length r.segments) (c.in_ok-renewed.ensures g.shared.holidays ∙ ap (λ (h : List Kept). rates_of g.shared.holidays h c.args.state.now.rates.penalties) c.posts.ensures.history) in
    rows-each _ c.args.first c.args.first _ _ (omega (arith, all, rated, same)) refl c.in_ok-empty_rows.ensures

pub returns-clause-accruals : goal.returns-clause-accruals
returns-clause-accruals c =
    let g = c.args.inputs.now in
    let old = c.args.state.now.accruals.items in
    let all = c.len.ensures.segments ∙ ap length c.in_ok-segments.ensures.segments in
    let rated = rates-count g.shared.holidays g.history in
    let same = ap (λ (r : Rates). length r.segments) (c.in_ok-renewed.ensures g.shared.holidays ∙ ap (λ (h : List Kept). rates_of g.shared.holidays h c.args.state.now.rates.penalties) c.posts.ensures.history) in
    let count : c.len.result - 2 ≡ length c.in_ok-renewed.field-0.segments = omega (arith, all, rated, same) in
    c.in_ok-more_accruals.ensures
    ∙ (ap (λ (l : List Accrued). l ++ replicate (c.len.result - 2 - length l) nothing_accrued) c.deref.ensures.value
    ∙ ap (λ (n : ℕ). old ++ replicate (n - length old) nothing_accrued) count)
