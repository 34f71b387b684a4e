use Rattle.std.proofs.Common.{◌≡◌, ◌-◌, length, refl, sym, ap, subst, ◌∙◌, arith, Some}
use Rattle.std.proofs.lemmas.Option.{slice_get_read}
use Rattle.card_book.proofs.Told.{cycle-place}
use Rattle.card_book.specs.Rewound.{GoesBack}
use Rattle.card_book.specs.Stands.{IsRequestDay}
use Rattle.card_book.specs.Statements.{statement_on}
use Rattle.card_model.specs.Cycles.{Cycle}
use Rattle.card_past.proofs.CycleBefore.{there-is}
use Rattle.card_past.proofs.Statements.{book-there, closed-now, folded-back, folded-now, kept-closings, stands-behind}
use Rattle.card_past.proofs.statement.statement_at.Goals as goal

some-is : {x y : Cycle} → Some x ≡ Some y → x ≡ y
some-is e = cc

pub lent-book-requires : goal.lent-book-requires
lent-book-requires c = record { there = book-there c.args.inputs.now c.args.book.now c.args.past.now c.args.number c.requires.closings c.requires.first c.requires.closed }

pub index-since-requires : goal.index-since-requires
index-since-requires c =
    let count = c.requires.closings.marks.count in
    let first = c.requires.first in
    let closed = c.requires.closed in
    omega (arith, count, first, closed, c.args.past.now.since.ok.0)

pub rewound-requires-clause-folded : goal.rewound-requires-clause-folded
rewound-requires-clause-folded c =
    folded-now c.args.inputs.now c.lent-book.result.now c.args.past.now c.anchor-anchor.ensures.sound (subst IsRequestDay c.day-last.ensures.value c.day-last.ensures.last)
    (kept-closings c.args.inputs.now c.args.book.now c.lent-book.result.now c.args.past.now c.lent-book.ensures c.requires.closings)

pub at_closing-folded-requires-clause-back : goal.at_closing-folded-requires-clause-back
at_closing-folded-requires-clause-back c =
    let p = c.args.past.now in
    let k = c.args.number in
    let at = there-is p.track.cycles.items k c.requires.first c.requires.closed in
    let count = c.requires.closings.marks.count in
    let first = c.requires.first in
    let closed = c.requires.closed in
    let kept = slice_get_read p.since.items (length p.since.items) (k - 1) c.index-since.result.now refl (omega (arith, count, first, closed)) c.index-since.ensures in
    let goes = subst (λ xs. GoesBack k c.lent-book.result.now p.track c.index-since.result.now xs c.in_ok-back.back) c.deref.ensures.value c.in_ok-back.ensures.stands in
    folded-back c.args.inputs.now c.lent-book.result.now p k at.0 c.index-since.result.now c.in_ok-back.back c.anchor-anchor.ensures.sound (subst IsRequestDay c.day-last.ensures.value c.day-last.ensures.last)
    (kept-closings c.args.inputs.now c.args.book.now c.lent-book.result.now c.args.past.now c.lent-book.ensures c.requires.closings) at.1 kept goes (c.in_ok-back.ensures.day at.0 at.1)

pub index-cycle-requires : goal.index-cycle-requires
index-cycle-requires c =
    let first = c.requires.first in
    let closed = c.requires.closed in
    omega (arith, first, closed, c.args.past.now.track.cycles.ok.0)

pub statement_of-requires : goal.statement_of-requires
statement_of-requires c =
    let g = c.args.inputs.now in
    let p = c.args.past.now in
    let k = c.args.number in
    let x = c.index-cycle.result.now in
    let at = cycle-place k p.track.cycles.items x c.requires.first c.requires.closed ∙ ap Some (sym c.index-cycle.ensures) in
    let count = c.requires.closings.marks.count in
    let first = c.requires.first in
    let closed = c.requires.closed in
    let kept = slice_get_read p.since.items (length p.since.items) (k - 1) c.index-since.result.now refl (omega (arith, count, first, closed)) c.index-since.ensures in
    let goes = subst (λ xs. GoesBack k c.lent-book.result.now p.track c.index-since.result.now xs c.in_ok-back.back) c.deref.ensures.value c.in_ok-back.ensures.stands in
    record {
      closed = closed-now g c.lent-book.result.now p k x c.anchor-anchor.ensures.sound (subst IsRequestDay c.day-last.ensures.value c.day-last.ensures.last) (kept-closings c.args.inputs.now c.args.book.now c.lent-book.result.now c.args.past.now c.lent-book.ensures c.requires.closings) at;
      folded = c.at_closing-folded.ensures g x (stands-behind g c.lent-book.result.now p k x c.index-since.result.now c.in_ok-back.back c.anchor-anchor.ensures.sound (kept-closings c.args.inputs.now c.args.book.now c.lent-book.result.now c.args.past.now c.lent-book.ensures c.requires.closings) at kept goes (c.in_ok-back.ensures.day x at));
    }

pub returns : goal.returns
returns c = λ d there.
    let p = c.args.past.now in
    let x = c.index-cycle.result.now in
    let at = cycle-place c.args.number p.track.cycles.items x c.requires.first c.requires.closed ∙ ap Some (sym c.index-cycle.ensures) in
    c.in_ok-statement.ensures ∙ ap (statement_on c.args.inputs.now c.args.issue) (some-is (sym at ∙ there))
