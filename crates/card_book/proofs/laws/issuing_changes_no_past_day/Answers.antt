use Rattle.card_model.proofs.Issue.{issuing_changes_no_past_day as law}
use Rattle.card_book.proofs.laws.issuing_changes_no_past_day.Goals as goal

pub returns : goal.returns
returns c = law
