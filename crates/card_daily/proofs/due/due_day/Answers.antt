use Rattle.std.proofs.Common.{List, refl, ap, ◌∙◌}
use Rattle.card_model.specs.Cycles.{Cycle, last_cycle}
use Rattle.card_model.specs.declared.segment.Interval.{Interval}
use Rattle.card_daily.proofs.DueDay.{charged-cycles, charged-penalties, ended}
use Rattle.card_daily.specs.Given.{seen_in}
use Rattle.card_daily.specs.Penalties.{cured_on}
use Rattle.card_daily.specs.Stands.{before}
use Rattle.card_rates.specs.RateBooks.{Rates, with_penalties}
use Rattle.card_daily.proofs.due.due_day.Goals as goal

pub end_penalties-requires : goal.end_penalties-requires
end_penalties-requires c =
    let cycles = c.deref.ensures.value ∙ (c.in_ok-charge_late.ensures.charged.stand.cycles ∙ charged-cycles c.args.inputs.now c.args.day) in
    record { closed = record { dated = c.requires.dated; cycles = cycles } }

pub returns-clause-amid : goal.returns-clause-amid
returns-clause-amid c =
    let g = c.args.inputs.now in
    let day = c.args.day in
    let s = c.charge_late.new.state in
    let h = c.in_ok-charge_late.ensures.charged in
    let cycles = c.deref.ensures.value ∙ (h.stand.cycles ∙ charged-cycles g day) in
    let old = ap (λ (r : Rates). r.penalties) h.stand.rates ∙ charged-penalties g day in
    let ps = ap (λ (cs : List Cycle). cured_on (seen_in g day) cs (last_cycle cs) s.rates.penalties) cycles ∙ ap (cured_on (seen_in g day) (before g day).cycles (last_cycle (before g day).cycles)) old in
    ended g day s _ c.charge_late.new.track c.requires.dated.opened h
    (record { segments = refl; rates = c.end_penalties.ensures ∙ ap (λ (is : List Interval). with_penalties is s.rates) ps; rows = refl; accruals = refl })
