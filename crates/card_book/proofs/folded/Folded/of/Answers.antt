use Rattle.std.proofs.Common.{List, sym, subst}
use Rattle.card_model.specs.Entries.{AreBalances}
use Rattle.card_model.specs.declared.entry.Entry.{Entry}
use Rattle.card_book.proofs.Fronts.{folded-to}
use Rattle.card_book.proofs.Rewinding.{folded-sums}
use Rattle.card_book.specs.Stands.{FoldedBook, IsFoldedTo}
use Rattle.card_book.proofs.folded.Folded.of.Goals as goal

pub new-requires-clause-sums : goal.new-requires-clause-sums
new-requires-clause-sums c =
    subst (λ (es : List Entry). AreBalances es c.args.book.now.state.segments.balances) (sym c.deref.ensures.value) (folded-sums c.args.book.now c.args.track.now c.requires).0

pub new-requires-clause-small : goal.new-requires-clause-small
new-requires-clause-small c = (folded-sums c.args.book.now c.args.track.now c.requires).1

pub returns : goal.returns
returns c = λ g day h e. subst (λ (f : FoldedBook). IsFoldedTo g day f) (sym c.new.ensures)
    (rw (c.deref.ensures.value, c.deref-2.ensures.value, c.deref-3.ensures.value) (folded-to g c.args.book.now c.args.track.now day h e))
