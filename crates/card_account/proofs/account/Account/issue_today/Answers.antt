use Rattle.std.proofs.Common.{sym, ap, subst, ◌∙◌}
use Rattle.card_account.specs.Accounts.{IsIssueOf}
use Rattle.card_model.specs.Refusals.{Present, book_today}
use Rattle.card_account.proofs.account.Account.issue_today.Goals as goal

pub folded-folded-requires : goal.folded-folded-requires
folded-folded-requires c = record { replay = c.requires.account.replay; reached = c.requires.today; opened = c.requires.account.reach.opened }

pub restated_issue-requires : goal.restated_issue-requires
restated_issue-requires c = record { book = c.folded-folded.ensures.book ∙ ap book_today (sym c.present.ensures) }

pub returns : goal.returns
returns c = subst (λ (x : Present). IsIssueOf x c.args.cycle c.restated_issue.result) c.present.ensures c.restated_issue.ensures
