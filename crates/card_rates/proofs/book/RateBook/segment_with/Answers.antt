use Rattle.std.proofs.Common.{◌-◌, get_or, sym, ap, ◌∙◌, subst, arith, Some}
use Rattle.card_rates.specs.RateBooks.{AreByNumber, Rates}
use Rattle.card_rates.proofs.ByNumber.{at-place, number-above}
use Rattle.card_rates.proofs.book.RateBook.segment_with.Goals as goal

pub returns-then-number-lt2-clause-some : goal.returns-then-number-lt2-clause-some
returns-then-number-lt2-clause-some c g h e =
    let there = subst (λ (r : Rates). AreByNumber 2 r.segments) c.self.view_is c.self.invariant.numbers in
    let above = number-above 2 c.args.self.now.segments g there h in
    let few = c.if-number-lt2.true in
    absurd (omega (arith, above, e, few))

pub returns-clause-some : goal.returns-clause-some
returns-clause-some c g h e =
    let there = subst (λ (r : Rates). AreByNumber 2 r.segments) c.self.view_is c.self.invariant.numbers in
    let found = c.index.result.now in
    ap Some (c.index.ensures
    ∙ (ap (λ (r : Rates). get_or r.segments (c.args.number - 2) found) c.self.view_is
    ∙ (ap (λ k. get_or c.args.self.now.segments (k - 2) found) (sym e)
    ∙ at-place 2 c.args.self.now.segments g found there h)))
