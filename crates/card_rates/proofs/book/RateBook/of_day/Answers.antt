use Rattle.card_rates.proofs.book.RateBook.of_day.Goals as goal

pub returns : goal.returns
returns c = record { index_is = c.index_of.ensures; own = c.is_settled.ensures }
