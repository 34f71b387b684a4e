use Rattle.std.proofs.Common.{◌<◌, arith, subst}
use Rattle.std.proofs.lemmas.Bool.Decides.{nat_tests}
use Rattle.card_rates.specs.RateBooks.{Rates}
use Rattle.card_rates.specs.Settled.{AreSettled}
use Rattle.card_rates.proofs.Settling.{quiet-behind}
use Rattle.card_rates.proofs.book.RateBook.changes_no_more.Goals as goal

pub returns-in-Some : goal.returns-in-Some
returns-in-Some c x is l =
    let from = c.in-Some.from in
    let number = c.number_of.ensures.value in
    let before : from < c.args.day = grind (arith, nat_tests) in
    let known = subst (λ (r : Rates). AreSettled from r.segments r.lowerings r.penalties) c.self.view_is (c.self.invariant.settled from c.in-Some.is) in
    quiet-behind from x c.args.self.now (omega (arith, before, l)) known
