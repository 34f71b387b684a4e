use Rattle.std.proofs.Common.{◌≡◌, sym, ap, ◌∙◌, subst}
use Rattle.std.specs.List.{Contains}
use Rattle.card_rates.specs.RateBooks.{rate_of}
use Rattle.card_rates.proofs.book.RateBook.rate_by.Goals as goal

pub returns-in-Some-clause-rate : goal.returns-in-Some-clause-rate
returns-in-Some-clause-rate c g h e =
    let some = c.in-Some.ensures.some g h e in
    let same : c.in-Some.g.now ≡ g = cc in
    c.rate_of_its.ensures (subst (Contains c.args.self.now.segments) (sym same) h) ∙ ap (rate_of c.args.index.now c.args.self.now c.args.day) same

pub returns-in-None-clause-rate : goal.returns-in-None-clause-rate
returns-in-None-clause-rate c g h e = let some = c.in-None.ensures.some g h e in cc
