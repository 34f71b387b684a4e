use Rattle.std.proofs.Common.{sym, ◌∙◌}
use Rattle.card_fees.proofs.Returned.{one-returns}
use Rattle.card_fees.proofs.returning.this_or_other.Goals as goal

pub returns-then-returns_until : goal.returns-then-returns_until
returns-then-returns_until c =
    let posts = c.args.posts.now in
    sym (one-returns c.args.until.now posts.history posts.corrected c.args.payment c.args.this (sym c.returns_until.ensures ∙ c.if-returns_until.true))
