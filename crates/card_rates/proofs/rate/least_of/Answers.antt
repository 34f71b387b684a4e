use Rattle.std.proofs.Common.{sym, ap, ◌∙◌}
use Rattle.card_model.specs.Rates.{Begun, lowered_by}
use Rattle.card_rates.proofs.OneMore.{capped-none, capped-more}
use Rattle.card_rates.proofs.rate.least_of.Goals as goal

pub loop-cap-init : goal.loop-cap-init
loop-cap-init c = ap (λ (b : Begun). b.rate) c.begun.view_is ∙ sym (capped-none c.args.sort c.args.day c.args.begun)

pub loop-cap-preserved : goal.loop-cap-preserved
loop-cap-preserved c =
    c.lowered-least.ensures ∙ (ap (λ (b : Begun). lowered_by c.args.sort b.from c.args.day c.loop-cap.least c.cap-item.result) c.begun.view_is
    ∙ (ap (λ r. lowered_by c.args.sort c.args.begun.from c.args.day r c.cap-item.result) c.loop-cap.invariant
    ∙ sym (capped-more c.args.caps.now c.loop-cap.cap-index c.cap-item.result c.args.sort c.args.day c.args.begun c.loop-cap-test.true c.cap-item.is)))
