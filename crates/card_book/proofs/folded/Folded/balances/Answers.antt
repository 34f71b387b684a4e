use Rattle.std.proofs.Common.{◌∙◌, ap, get_or, pos}
use Rattle.card_book.specs.Stands.{FoldedBook}
use Rattle.card_model.specs.Entries.{balance}
use Rattle.card_segments.specs.Balances.{Balances}
use Rattle.card_book.proofs.Balances.{each-any}
use Rattle.card_book.proofs.folded.Folded.balances.Goals as goal

pub returns-clause-sums : goal.returns-clause-sums
returns-clause-sums c s =
    let inside = c.self.inside in
    ap (λ (b : Balances). get_or b.balances s (pos 0)) c.segments.ensures.kept
    ∙ (each-any inside.entries.now inside.book.now.state.segments.balances s c.self.invariant.0 ∙ ap (λ (f : FoldedBook). balance s f.book.entries) c.self.view_is)
