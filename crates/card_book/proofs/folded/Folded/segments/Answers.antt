use Rattle.std.proofs.Common.{◌≡◌, ℕ, length, ap, sym, subst, ◌∙◌}
use Rattle.card_book.specs.Stands.{FoldedBook}
use Rattle.card_segments.specs.Balances.{AreOn, Balances}
use Rattle.card_book.proofs.folded.Folded.segments.Goals as goal

pub returns-clause-entries : goal.returns-clause-entries
returns-clause-entries c =
    let inside = c.self.inside in
    let balances = inside.book.now.state.segments.balances in
    let count : length balances ≡ length inside.book.now.state.segments.segments =
    ap (λ (b : Balances). length b.balances) (sym c.segments-segments.ensures.kept)
    ∙ (sym c.len-count.ensures.balances ∙ (c.len-count.ensures.segments ∙ ap (λ (b : Balances). length b.segments) c.segments-segments.ensures.kept)) in
    subst (λ (f : FoldedBook). AreOn (length f.segments) f.book.entries) c.self.view_is
    (subst (λ (n : ℕ). AreOn n inside.entries.now) count c.self.invariant.0.known)
