use Rattle.std.proofs.Common.{sym, subst}
use Rattle.card_model.specs.Entries.{AreBalances}
use Rattle.card_book.specs.Stands.{StandsFor, Summary, book_through}
use Rattle.card_book.proofs.Days.{book_is_the_fold}
use Rattle.card_book.proofs.kept_book.Book.segments.Goals as goal

pub returns-clause-balances : goal.returns-clause-balances
returns-clause-balances c g t h =
    let i = subst (λ s. StandsFor g s t) (sym c.self.view_is) h in
    subst (λ (b : Summary). AreBalances (book_through g b.day).entries c.self.inside.state.segments.balances) c.self.view_is (book_is_the_fold g _ t i).balances
