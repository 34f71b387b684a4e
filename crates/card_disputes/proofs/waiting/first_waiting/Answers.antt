use Rattle.std.proofs.Common.{sym, ◌∙◌}
use Rattle.card_disputes.proofs.FirstWaiting.{none-waits, waits-so}
use Rattle.card_disputes.specs.Waits.{does}
use Rattle.card_disputes.proofs.waiting.first_waiting.Goals as goal

pub this_or_other-requires : goal.this_or_other-requires
this_or_other-requires c = sym c.in-Some.is ∙ c.by.ensures

pub returns-in-None : goal.returns-in-None
returns-in-None c =
    let n = c.args.number in
    sym (none-waits (does c.args.wait n) n (waits-so c.args.wait n) c.args.posts.now.history (sym c.by.ensures ∙ c.in-None.is))
