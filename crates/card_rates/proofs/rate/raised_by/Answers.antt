use Rattle.std.proofs.Common.{ℕ, max, sym, ap, ◌∙◌}
use Rattle.card_model.specs.Rates.{capped, with_penalty}
use Rattle.card_rates.proofs.OneMore.{raised-idle, raised-once}
use Rattle.card_rates.proofs.rate.raised_by.Goals as goal

pub returns-then-not-is_in_force : goal.returns-then-not-is_in_force
returns-then-not-is_in_force c =
    let t = c.if-not-is_in_force.true in
    let e = c.is_in_force.ensures in
    sym (raised-idle (with_penalty c.args.caps.now c.args.penalty_rate c.args.sort c.args.day) c.args.rate c.args.day c.args.penalty.now cc)

pub returns : goal.returns
returns c =
    let t = c.if-not-is_in_force.false in
    let e = c.is_in_force.ensures in
    let once = raised-once (with_penalty c.args.caps.now c.args.penalty_rate c.args.sort c.args.day) c.args.rate c.args.day c.args.penalty.now cc in
    let capped_from = λ (f : ℕ). capped c.args.caps.now c.args.sort c.args.day (record { rate = c.args.penalty_rate; from = f }) in
    c.greater.ensures ∙ (ap (max c.args.rate) (c.least_of.ensures ∙ ap capped_from c.number_of.ensures.value) ∙ sym once)
