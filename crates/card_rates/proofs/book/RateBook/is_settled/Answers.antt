use Rattle.std.proofs.Common.{◌≤◌, subst, arith}
use Rattle.std.proofs.lemmas.Bool.Decides.{nat_tests}
use Rattle.card_rates.specs.RateBooks.{AreByNumber, Rates}
use Rattle.card_rates.specs.Settled.{AreSettled}
use Rattle.card_rates.proofs.Settling.{borne, settled-later}
use Rattle.card_rates.proofs.Unchanged.{rate-with-is}
use Rattle.card_rates.proofs.book.RateBook.is_settled.Goals as goal

pub returns-in-Some : goal.returns-in-Some
returns-in-Some c is rows g its =
    let from = c.in-Some.from in
    let day = c.args.day in
    let rates = c.args.self.now in
    let number = c.number_of.ensures.value in
    let by_then : from ≤ day = grind (arith, nat_tests) in
    let there = subst (λ (r : Rates). AreByNumber 2 r.segments) c.self.view_is c.self.invariant.numbers in
    let known = subst (λ (r : Rates). AreSettled from r.segments r.lowerings r.penalties) c.self.view_is (c.self.invariant.settled from c.in-Some.is) in
    let settled = settled-later from day rates.segments rates.lowerings rates.penalties by_then known in
    rate-with-is rows rates day g there settled.unlowered settled.unraised its (borne day rates.segments rates.lowerings rates.penalties g settled its)
