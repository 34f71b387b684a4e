use Rattle.std.proofs.Common.{sym, ◌∙◌}
use Rattle.card_disputes.proofs.FirstWaiting.{first-waits, waits-so}
use Rattle.card_disputes.specs.Waits.{does}
use Rattle.card_disputes.proofs.waiting.this_or_other.Goals as goal

pub returns-then-does_at : goal.returns-then-does_at
returns-then-does_at c =
    let n = c.args.number in
    sym (first-waits (does c.args.wait n) n (waits-so c.args.wait n) c.args.posts.now.history c.args.this (sym c.requires) (sym c.does_at.ensures ∙ c.if-does_at.true))
