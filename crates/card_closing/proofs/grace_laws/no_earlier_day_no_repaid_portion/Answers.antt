use Rattle.card_closing.proofs.OfBook.{kept_too, no_earlier_day}
use Rattle.card_closing.proofs.grace_laws.no_earlier_day_no_repaid_portion.Goals as goal

pub returns-clause-definition : goal.returns-clause-definition
returns-clause-definition c = no_earlier_day

pub returns-clause-kept : goal.returns-clause-kept
returns-clause-kept c = kept_too
