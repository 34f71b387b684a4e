use Rattle.std.proofs.Common.{w64}
use Rattle.std.proofs.lemmas.Int.{to_z-of_z}
use Rattle.std.proofs.Common.{◌∙◌, ap, sym, subst, pos, get_or}
use Rattle.std.specs.Prelude.{neg_ℤ}
use Rattle.card_book.specs.Stands.{FoldedBook}
use Rattle.card_model.specs.Entries.{at_least_zero, credit_balance}
use Rattle.card_model.specs.Limits.{balance_limit}
use Rattle.card_segments.specs.Balances.{AreWithin, Balances}
use Rattle.card_book.proofs.Balances.{each-any}
use Rattle.card_book.proofs.folded.Folded.credit.Goals as goal

pub credit_of-requires : goal.credit_of-requires
credit_of-requires c = record { small = subst (λ (b : Balances). AreWithin balance_limit b.balances) (sym c.segments.ensures.kept) c.self.invariant.1 }

pub returns : goal.returns
returns c =
    let inside = c.self.inside in
    to_z-of_z w64 c.credit_of.result (record { sfits = c.credit_of.type_inv })
    ∙ (c.credit_of.ensures
    ∙ (ap (λ (b : Balances). pos (at_least_zero (neg_ℤ (get_or b.balances 0 (pos 0))))) c.segments.ensures.kept
    ∙ (ap (λ z. pos (at_least_zero (neg_ℤ z))) (each-any inside.entries.now inside.book.now.state.segments.balances 0 c.self.invariant.0)
    ∙ ap (λ (f : FoldedBook). pos (credit_balance f.book.entries)) c.self.view_is)))
