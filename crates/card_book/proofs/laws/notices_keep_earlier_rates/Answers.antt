use Rattle.card_book.proofs.Notices.{notices_keep_earlier_rates as law}
use Rattle.card_book.proofs.laws.notices_keep_earlier_rates.Goals as goal

pub returns : goal.returns
returns c = law
