use Rattle.std.proofs.Common.{sym, ◌∙◌}
use Rattle.card_reasons.proofs.NoticeLemmas.{none_pending, some_pending}
use Rattle.card_reasons.proofs.notice.pending_reason.Goals as goal

pub returns-in-Some : goal.returns-in-Some
returns-in-Some c now rate effective same = some_pending now c.args.day rate effective c.args.category c.in-Some.pending (sym (c.pending_day.ensures now same) ∙ c.in-Some.is)

pub returns-in-None : goal.returns-in-None
returns-in-None c now rate effective same = none_pending now c.args.day rate effective c.args.category (sym (c.pending_day.ensures now same) ∙ c.in-None.is)
