use Rattle.std.proofs.Common.{◌≡◌, ◌+◌, length, refl, sym, ap, subst, ◌∙◌, arith}
use Rattle.card_events.specs.Billing.{closing}
use Rattle.card_events.specs.declared.anchor.Anchor.{Anchor}
use Rattle.card_events.specs.History.{anchor_of}
use Rattle.card_model.specs.CycleDays.{IsOpening}
use Rattle.card_book.specs.Marks.{AreMarks}
use Rattle.card_book.specs.Stands.{day_to_fold, steps_over}
use Rattle.card_past.proofs.Grown.{past-same, past-then, past-with}
use Rattle.card_past.proofs.NextClosing.{closed-through, first-closing, next-is, same-cycles}
use Rattle.card_past.proofs.Reaching.{steps-on}
use Rattle.card_past.specs.declared.past.Past.{Past}
use Rattle.card_past.proofs.folding.fold_on.Goals as goal

pub loop-closing-init : goal.loop-closing-init
loop-closing-init g c = record {
  whole = c.requires.whole;
  folded = c.requires.folded;
  steps = refl;
  begins = past-same c.args.past.now;
}

pub closing_by-requires-clause-opening : goal.closing_by-requires-clause-opening
closing_by-requires-clause-opening g c = subst IsOpening (sym c.anchor-anchor.ensures.value) c.anchor-anchor.ensures.sound.opening

pub closing_by-requires-clause-last : goal.closing_by-requires-clause-last
closing_by-requires-clause-last g c = c.requires.folded.last

pub closing_by-requires-clause-folded : goal.closing_by-requires-clause-folded
closing_by-requires-clause-folded g c =
    let given = c.args.inputs.now in
    let l = c.loop-closing in
    let folded = l.invariant.folded in
    let later = folded.later in
    let last = folded.last in
    let closed = closed-through given l.book l.past.track c.anchor-anchor.ensures.sound folded.stands (omega (arith, later, last)) in
    let before = closed.last in
    let ok = l.past.track.cycles.ok.0 in
    let count : c.len.result ≡ length l.past.track.cycles.items = omega (arith, c.len.ensures, ok) in
    let same = ap (λ (a : Anchor). closing a c.len.result) c.anchor-anchor.ensures.value ∙ ap (closing (anchor_of given.history)) count in
    omega (arith, same, before, later)

-- the closing is the next one
pub fold_closing-requires-clause-closing : goal.fold_closing-requires-clause-closing
fold_closing-requires-clause-closing g c =
    let l = c.loop-closing in
    let next =
    next-is c.anchor-anchor.ensures.sound l.invariant.folded c.anchor-anchor.ensures.value c.len.ensures (c.closing_by.ensures.some c.in-Some.closing c.in-Some.is) in
    next.counted

pub fold_closing-requires-clause-folded : goal.fold_closing-requires-clause-folded
fold_closing-requires-clause-folded g c =
    let l = c.loop-closing in
    let folded = l.invariant.folded in
    let next =
    next-is c.anchor-anchor.ensures.sound l.invariant.folded c.anchor-anchor.ensures.value c.len.ensures (c.closing_by.ensures.some c.in-Some.closing c.in-Some.is) in
    record { stands = folded.stands; marks = folded.marks; opened = next.opened; later = omega (arith, next.upto); last = omega (arith, next.within, next.last) }

pub loop-closing-preserved : goal.loop-closing-preserved
loop-closing-preserved g c =
    let given = c.args.inputs.now in
    let l = c.loop-closing in
    let folded = l.invariant.folded in
    let did = c.in_ok-fold_closing.ensures in
    let sound = c.anchor-anchor.ensures.sound in
    let next =
    next-is c.anchor-anchor.ensures.sound l.invariant.folded c.anchor-anchor.ensures.value c.len.ensures (c.closing_by.ensures.some c.in-Some.closing c.in-Some.is) in
    let here : day_to_fold given c.fold_closing.new.book.day ≡ c.in-Some.closing + 1 = ap (day_to_fold given) did.day in
    record {
      whole = did.whole;
      folded = record { stands = did.stands; marks = did.marked; opened = folded.opened; later = omega (arith, here, next.within); last = next.last };
      steps = ap (λ d. c.fold_closing.new.steps + steps_over given c.args.to d) here
          ∙ (steps-on given (day_to_fold given l.book.day) c.in-Some.closing c.args.to l.steps c.fold_closing.new.steps sound.opening next.opened next.dated (omega (arith, next.upto)) next.within next.last did.steps
          ∙ l.invariant.steps);
      begins = past-then c.args.past.now l.past c.fold_closing.new.past l.invariant.begins c.fold_closing.ensures.begins;
    }

pub loop-closing-smaller : goal.loop-closing-smaller
loop-closing-smaller g c =
    let given = c.args.inputs.now in
    let l = c.loop-closing in
    let next =
    next-is c.anchor-anchor.ensures.sound l.invariant.folded c.anchor-anchor.ensures.value c.len.ensures (c.closing_by.ensures.some c.in-Some.closing c.in-Some.is) in
    let here : day_to_fold given c.fold_closing.new.book.day ≡ c.in-Some.closing + 1 = ap (day_to_fold given) c.in_ok-fold_closing.ensures.day in
    omega (arith, here, next.upto, next.within)

-- ---- after want of memory at a closing
pub returns-in_err-fold_closing-clause-most : goal.returns-in_err-fold_closing-clause-most
returns-in_err-fold_closing-clause-most g c =
    let given = c.args.inputs.now in
    let l = c.loop-closing in
    let sound = c.anchor-anchor.ensures.sound in
    let next =
    next-is c.anchor-anchor.ensures.sound l.invariant.folded c.anchor-anchor.ensures.value c.len.ensures (c.closing_by.ensures.some c.in-Some.closing c.in-Some.is) in
    let first = day_to_fold given l.book.day in
    let whole =
    steps-on given first c.in-Some.closing c.args.to l.steps (l.steps + steps_over given c.in-Some.closing first) sound.opening next.opened next.dated (omega (arith, next.upto)) next.within next.last refl in
    omega (arith, whole, c.fold_closing.ensures.most, l.invariant.steps)

pub returns-in_err-fold_closing-clause-begins : goal.returns-in_err-fold_closing-clause-begins
returns-in_err-fold_closing-clause-begins g c = past-then c.args.past.now c.loop-closing.past c.fold_closing.new.past c.loop-closing.invariant.begins c.fold_closing.ensures.begins

-- ---- to the last day
pub advance-requires-clause-stands : goal.advance-requires-clause-stands
advance-requires-clause-stands g c = c.loop-closing.invariant.folded.stands

pub advance-requires-clause-opened : goal.advance-requires-clause-opened
advance-requires-clause-opened g c = c.loop-closing.invariant.folded.opened

pub advance-requires-clause-later : goal.advance-requires-clause-later
advance-requires-clause-later g c = c.loop-closing.invariant.folded.later

pub advance-requires-clause-last : goal.advance-requires-clause-last
advance-requires-clause-last g c = c.loop-closing.invariant.folded.last

pub returns-clause-marked : goal.returns-clause-marked
returns-clause-marked g c =
    let given = c.args.inputs.now in
    let l = c.loop-closing in
    let before = c.closing_by.ensures.none c.in_default.is in
    let there = first-closing given l.past.track c.anchor-anchor.ensures.value c.len.ensures in
    let same = same-cycles given c.advance.new.self l.past.track c.advance.new.track c.args.to c.anchor-anchor.ensures.sound c.in_ok-advance.ensures.stands c.in_ok-advance.ensures.day
    l.invariant.folded.last c.advance.ensures.begins (omega (arith, before, there)) in
    subst (λ cs. AreMarks given cs l.past.since.items l.past.accrued.items) (sym same) l.invariant.folded.marks

pub returns-clause-steps : goal.returns-clause-steps
returns-clause-steps g c = c.in_ok-advance.ensures.steps ∙ c.loop-closing.invariant.steps

pub returns-clause-most : goal.returns-clause-most
returns-clause-most g c = omega (arith, c.advance.ensures.most_spans, c.loop-closing.invariant.steps)

pub returns-clause-begins : goal.returns-clause-begins
returns-clause-begins g c =
    let p = c.loop-closing.past in
    let new : Past = record { track = c.advance.new.track; since = p.since; accrued = p.accrued } in
    past-then c.args.past.now p new c.loop-closing.invariant.begins (past-with p c.advance.new.track c.advance.ensures.begins)

pub returns-in_err-advance-clause-most : goal.returns-in_err-advance-clause-most
returns-in_err-advance-clause-most g c = omega (arith, c.advance.ensures.most_spans, c.loop-closing.invariant.steps)

pub returns-in_err-advance-clause-begins : goal.returns-in_err-advance-clause-begins
returns-in_err-advance-clause-begins g c =
    let p = c.loop-closing.past in
    let new : Past = record { track = c.advance.new.track; since = p.since; accrued = p.accrued } in
    past-then c.args.past.now p new c.loop-closing.invariant.begins (past-with p c.advance.new.track c.advance.ensures.begins)
