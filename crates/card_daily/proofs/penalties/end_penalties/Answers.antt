use Rattle.std.proofs.Common.{◌+◌, List, eqb, sym, ap, ◌∙◌, subst}
use Rattle.std.specs.List.{All}
use Rattle.std.specs.Prelude.{option_copied}
use Rattle.std.proofs.lemmas.Bool.{eqb-true}
use Rattle.card_model.specs.Cycles.{Cycle, last_cycle}
use Rattle.card_model.specs.declared.segment.Interval.{Interval}
use Rattle.card_rates.specs.RateBooks.{with_penalties}
use Rattle.card_daily.proofs.Lasts.{last-get}
use Rattle.card_daily.proofs.Penalized.{all-due, cured-else, cured-then}
use Rattle.card_daily.specs.Given.{seen_in}
use Rattle.card_daily.specs.Returns.{IsDueBy}
use Rattle.card_daily.proofs.penalties.end_penalties.Goals as goal

pub end_cured-requires : goal.end_cured-requires
end_cured-requires c =
    let g = c.args.inputs.now in
    let day = c.args.day in
    let cycles = c.args.cycles.now in
    let last = sym (last-get cycles) ∙ (sym c.last.ensures.value ∙ ap option_copied c.in-Some.is) in
    let at = ap (λ (x : Cycle). x.due) c.cycle.view_is in
    let on = ap (λ d. eqb day (d + 1)) (sym at) ∙ (sym c.is_day_after.ensures ∙ c.if-is_day_after.true) in
    let due = subst (All (IsDueBy g day)) (sym c.requires.closed.cycles)
    (all-due g day c.in-Some.cycle.now c.anchor-sound.ensures.sound c.requires.closed.dated.opened c.requires.closed.dated.last (ap last_cycle (sym c.requires.closed.cycles) ∙ last) (eqb-true day (c.in-Some.cycle.now.due + 1) on)) in
    record { due = record { due = due; last = c.requires.closed.dated.last } }

pub returns-then-is_day_after : goal.returns-then-is_day_after
returns-then-is_day_after c =
    let day = c.args.day in
    let cycles = c.args.cycles.now in
    let last = sym (last-get cycles) ∙ (sym c.last.ensures.value ∙ ap option_copied c.in-Some.is) in
    let due = ap (λ (x : Cycle). x.due) c.cycle.view_is in
    let on = ap (λ d. eqb day (d + 1)) (sym due) ∙ (sym c.is_day_after.ensures ∙ c.if-is_day_after.true) in
    let ps = cured-then (seen_in c.args.inputs.now day) cycles c.in-Some.cycle.now c.cycle.inside.due c.args.rates.now.penalties (last_cycle cycles) last due on in
    c.end_cured.ensures ∙ ap (λ (is : List Interval). with_penalties is c.args.rates.now) ps

pub returns-else-is_day_after : goal.returns-else-is_day_after
returns-else-is_day_after c =
    let day = c.args.day in
    let cycles = c.args.cycles.now in
    let last = sym (last-get cycles) ∙ (sym c.last.ensures.value ∙ ap option_copied c.in-Some.is) in
    let due = ap (λ (x : Cycle). x.due) c.cycle.view_is in
    let off = ap (λ d. eqb day (d + 1)) (sym due) ∙ (sym c.is_day_after.ensures ∙ c.if-is_day_after.false) in
    ap (λ (is : List Interval). with_penalties is c.args.rates.now) (cured-else (seen_in c.args.inputs.now day) cycles c.in-Some.cycle.now c.args.rates.now.penalties (last_cycle cycles) last off)
