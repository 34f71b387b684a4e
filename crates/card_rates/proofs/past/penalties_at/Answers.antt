use Rattle.std.proofs.Common.{sym, ap, ◌∙◌}
use Rattle.std.proofs.lemmas.List.{take_all}
use Rattle.card_model.specs.Cuts.{penalties_at}
use Rattle.card_rates.proofs.Earlier.{earlier-more, earlier-none}
use Rattle.card_rates.proofs.past.penalties_at.Goals as goal

pub loop-penalty-init : goal.loop-penalty-init
loop-penalty-init c = c.new-list.ensures.items ∙ sym (earlier-none c.args.day)

pub loop-penalty-preserved : goal.loop-penalty-preserved
loop-penalty-preserved c =
    earlier-more c.args.day c.args.penalties.now c.loop-penalty.penalty-index c.loop-penalty.list.items c.push_as_of.new.list.items c.penalty-item.result c.loop-penalty-test.true c.penalty-item.is
    c.loop-penalty.invariant c.in_ok-push_as_of.ensures

pub returns : goal.returns
returns c = c.loop-penalty.invariant ∙ ap (penalties_at c.args.day) (take_all c.loop-penalty.penalty-index c.args.penalties.now c.loop-penalty-test.false)
