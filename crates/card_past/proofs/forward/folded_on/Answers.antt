use Rattle.std.proofs.Common.{◌≡◌, ◌+◌, sym, ap, subst, ◌∙◌, arith, None}
use Rattle.card_book.specs.Stands.{day_to_fold, steps_over}
use Rattle.card_past.proofs.Grown.{past-same}
use Rattle.card_past.specs.Foldings.{IsFolding}
use Rattle.card_past.proofs.forward.folded_on.Goals as goal

pub fold_on-requires-clause-whole : goal.fold_on-requires-clause-whole
fold_on-requires-clause-whole g c = c.in_ok-later.ensures.whole c.requires.folded.folding.whole

pub fold_on-requires-clause-folded : goal.fold_on-requires-clause-folded
fold_on-requires-clause-folded g c =
    let given = c.args.inputs.now in
    let h = c.requires.folded in
    let later = h.later in
    let here : day_to_fold given c.in_ok-later.later.day ≡ h.reached + 1 = ap (day_to_fold given) c.in_ok-later.ensures.day ∙ h.folding.day in
    record {
      stands = c.in_ok-later.ensures.stands c.args.past.now.track h.folding.stands;
      marks = h.folding.marks;
      opened = h.opened;
      later = omega (arith, here, later);
      last = h.last;
    }

pub returns-clause-folding : goal.returns-clause-folding
returns-clause-folding g c =
    let given = c.args.inputs.now in
    let did = c.in_ok-fold_on.ensures in
    subst (λ o. IsFolding given (record { reached = c.args.today; book = o; past = c.fold_on.new.past; eve = None })) (sym c.in_ok-kept.ensures)
    (record { day = ap (day_to_fold given) did.day; whole = did.whole; stands = did.stands; marks = did.marked; eve = tt })

pub returns-clause-steps : goal.returns-clause-steps
returns-clause-steps g c =
    let same = ap (λ o. steps_over c.args.inputs.now c.args.today (day_to_fold c.args.inputs.now o)) c.in_ok-later.ensures.day in
    c.in_ok-fold_on.ensures.steps ∙ ap (λ n. c.args.steps.now + n) same

pub returns-clause-most : goal.returns-clause-most
returns-clause-most g c =
    let same = ap (λ o. steps_over c.args.inputs.now c.args.today (day_to_fold c.args.inputs.now o)) c.in_ok-later.ensures.day in
    omega (arith, c.fold_on.ensures.most, same)

pub returns-in_err-fold_on-clause-most : goal.returns-in_err-fold_on-clause-most
returns-in_err-fold_on-clause-most g c =
    let same = ap (λ o. steps_over c.args.inputs.now c.args.today (day_to_fold c.args.inputs.now o)) c.in_ok-later.ensures.day in
    omega (arith, c.fold_on.ensures.most, same)

pub returns-in_err-kept-clause-most : goal.returns-in_err-kept-clause-most
returns-in_err-kept-clause-most g c =
    let same = ap (λ o. steps_over c.args.inputs.now c.args.today (day_to_fold c.args.inputs.now o)) c.in_ok-later.ensures.day in
    omega (arith, c.fold_on.ensures.most, same)

pub returns-in_err-later-clause-begins : goal.returns-in_err-later-clause-begins
returns-in_err-later-clause-begins g c = past-same c.args.past.now
