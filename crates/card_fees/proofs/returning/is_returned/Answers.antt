use Rattle.std.proofs.Common.{sym, ◌∙◌}
use Rattle.card_fees.proofs.Returned.{none-waits}
use Rattle.card_fees.proofs.returning.is_returned.Goals as goal

pub returns-in-None : goal.returns-in-None
returns-in-None c =
    let posts = c.args.posts.now in
    sym (none-waits c.args.until.now posts.history posts.corrected c.args.payment (sym c.by.ensures ∙ c.in-None.is))
