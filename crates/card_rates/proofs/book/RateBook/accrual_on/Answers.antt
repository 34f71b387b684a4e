use Rattle.std.proofs.Common.{◌≡◌, ap, ◌∙◌}
use Rattle.card_model.specs.Rates.{accrual_rate}
use Rattle.card_rates.proofs.book.RateBook.accrual_on.Goals as goal

pub returns-in-Some-clause-rate : goal.returns-in-Some-clause-rate
returns-in-Some-clause-rate c g h e =
    let some = c.in-Some.ensures.some g h e in
    let same : c.in-Some.g.now ≡ g = cc in
    c.accrues.ensures ∙ ap (accrual_rate c.args.day) same

pub returns-in-None-clause-rate : goal.returns-in-None-clause-rate
returns-in-None-clause-rate c g h e = let some = c.in-None.ensures.some g h e in cc
