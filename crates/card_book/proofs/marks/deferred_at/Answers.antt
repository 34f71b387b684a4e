use Rattle.std.proofs.Common.{◌-◌, arith}
use Rattle.std.proofs.lemmas.List.{get_or_read}
use Rattle.card_closing.specs.Accruals.{nothing_accrued}
use Rattle.card_book.proofs.Marking.{kept-none, kept-some}
use Rattle.card_book.proofs.marks.deferred_at.Goals as goal

pub returns-in-Some : goal.returns-in-Some
returns-in-Some c t there number =
    let accruals = c.args.state.now.accruals.items in
    let here = c.requires.segment in
    let last = c.requires.rated in
    let equal = c.requires.equal in
    let x = c.index.result.now in
    let read = get_or_read accruals (c.args.id - 2) x (omega (arith, here, last, equal)) c.index.ensures nothing_accrued in
    kept-some c.args.cycle c.args.day c.args.id accruals t c.accrual_on.result c.in-Some.field-0 x number (c.accrual_on.ensures.rate t there number) c.in-Some.is read

pub returns-in-None : goal.returns-in-None
returns-in-None c t there number =
    kept-none c.args.cycle c.args.day c.args.state.now.accruals.items t c.accrual_on.result (c.accrual_on.ensures.rate t there number) c.in-None.is
