use Rattle.std.proofs.Common.{w64}
use Rattle.std.proofs.lemmas.Int.{to_z-of_z}
use Rattle.std.proofs.Common.{◌∙◌, ap, pos, get_or}
use Rattle.card_book.specs.Stands.{FoldedBook}
use Rattle.card_model.specs.Entries.{at_least_zero, owing}
use Rattle.card_segments.specs.Balances.{Balances}
use Rattle.card_book.proofs.Balances.{each-any}
use Rattle.card_book.proofs.folded.Folded.held.Goals as goal

pub returns : goal.returns
returns c =
    let inside = c.self.inside in
    to_z-of_z w64 c.held_in.result (record { sfits = c.held_in.type_inv })
    ∙ (c.held_in.ensures
    ∙ (ap (λ (b : Balances). pos (at_least_zero (get_or b.balances 1 (pos 0)))) c.segments.ensures.kept
    ∙ (ap (λ z. pos (at_least_zero z)) (each-any inside.entries.now inside.book.now.state.segments.balances 1 c.self.invariant.0)
    ∙ ap (λ (f : FoldedBook). pos (owing 1 f.book.entries)) c.self.view_is)))
