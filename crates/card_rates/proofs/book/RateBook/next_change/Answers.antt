use Rattle.card_rates.specs.Next.{changes}
use Rattle.card_rates.proofs.Nearest.{next-never}
use Rattle.card_rates.proofs.book.RateBook.next_change.Goals as goal

pub returns-then-changes_no_more : goal.returns-then-changes_no_more
returns-then-changes_no_more c =
    next-never (changes c.args.self.now) c.args.first c.args.end c.requires (λ x l m. c.changes_no_more.ensures x c.if-changes_no_more.true l)
