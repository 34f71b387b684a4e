use Rattle.std.proofs.Common.{sym, subst}
use Rattle.card_book.specs.Stands.{StandsFor}
use Rattle.card_book.proofs.Told.{copy-stands}
use Rattle.card_book.proofs.kept_book.Book.copy.Goals as goal

pub returns-clause-stands : goal.returns-clause-stands
returns-clause-stands c g t h =
    let i = subst (λ s. StandsFor g s t) (sym c.self.view_is) h in
    let did = c.in_ok-copy_state.ensures in
    copy-stands g _ c.in_ok-copy_state.field-0 t (record { segments = did.segments; rates = did.rates; rows = did.rows; accruals = did.accruals }) i
