use Rattle.std.proofs.Common.{subst}
use Rattle.card_book.proofs.Told.{start-stands}
use Rattle.card_book.specs.Stands.{IsBlankFrom}
use Rattle.card_book.proofs.kept_book.Book.start.Goals as goal

pub returns-clause-stands : goal.returns-clause-stands
returns-clause-stands c t blank =
    start-stands c.args.inputs.now c.in_ok-start.field-0 c.start-2.result t (c.in_ok-start.ensures t blank) (subst (λ d. IsBlankFrom d c.start-2.result) c.opening_day.ensures.day c.start-2.ensures)
