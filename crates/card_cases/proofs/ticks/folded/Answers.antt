use Rattle.std.proofs.Common.{◌≡◌, ◌+◌, ap, ◌∙◌, subst}
use Rattle.card_book.specs.Stands.{day_to_fold, steps_over}
use Rattle.card_cases.proofs.Alone.{five-steps, opened-alone}
use Rattle.card_cases.proofs.ticks.folded.Goals as goal

pub advance-requires-clause-stands : goal.advance-requires-clause-stands
advance-requires-clause-stands g c = c.in_ok-book.ensures.stands c.args.track.now c.requires.blank

pub returns-clause-five : goal.returns-clause-five
returns-clause-five g c =
    let given = c.args.inputs.now in
    let history = c.args.posts.now.history in
    let count : steps_over given c.day.result (day_to_fold given c.in_ok-book.book.day) ≡ 5 =
    ap (λ d. steps_over given d (day_to_fold given c.in_ok-book.book.day)) c.day.ensures
    ∙ (ap (λ o. steps_over given 19792 (day_to_fold given o)) c.in_ok-book.ensures.day
    ∙ (ap (steps_over given 19792) (opened-alone given history c.requires.alone c.requires.given) ∙ five-steps given history c.requires.alone c.requires.given)) in
    subst (λ n. c.advance.new.steps ≡ c.args.steps.now + n) count c.in_ok-advance.ensures.steps
