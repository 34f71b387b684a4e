use Rattle.std.proofs.Common.{sym, ap, ◌∙◌, [], ◌∷◌}
use Rattle.std.specs.List.{fold}
use Rattle.card_model.specs.Rates.{with_penalty, starts}
use Rattle.card_rates.proofs.OneMore.{raised-none, raised-more}
use Rattle.card_rates.proofs.rate.raised.Goals as goal

pub loop-penalty-init : goal.loop-penalty-init
loop-penalty-init c = sym (raised-none (with_penalty c.args.caps.now c.args.penalty_rate c.args.sort c.args.day) c.args.base c.args.day)

pub loop-penalty-preserved : goal.loop-penalty-preserved
loop-penalty-preserved c =
    let f = with_penalty c.args.caps.now c.args.penalty_rate c.args.sort c.args.day in
    c.raised_by-rate.ensures ∙ (ap (λ r. fold f r (starts c.args.day (c.penalty-item.result ∷ []))) c.loop-penalty.invariant
    ∙ sym (raised-more f c.args.base c.args.day c.args.penalties.now c.loop-penalty.penalty-index c.penalty-item.result c.loop-penalty-test.true c.penalty-item.is))
