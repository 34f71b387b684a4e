use Rattle.std.proofs.Common.{w64}
use Rattle.std.proofs.lemmas.Int.{to_z-of_z}
use Rattle.std.proofs.Common.{◌∙◌, ap}
use Rattle.card_book.specs.Stands.{FoldedBook}
use Rattle.card_model.specs.Entries.{owed}
use Rattle.card_segments.proofs.Totals.{total-owed}
use Rattle.card_segments.specs.Balances.{Balances, total}
use Rattle.card_book.proofs.folded.Folded.owed.Goals as goal

pub returns : goal.returns
returns c =
    let inside = c.self.inside in
    to_z-of_z w64 c.owed.result (record { sfits = c.owed.type_inv })
    ∙ (c.owed.ensures
    ∙ (ap (λ (b : Balances). total b.balances) c.segments.ensures.kept
    ∙ (total-owed inside.entries.now inside.book.now.state.segments.balances c.self.invariant.0 ∙ ap (λ (f : FoldedBook). owed f.book.entries) c.self.view_is)))
