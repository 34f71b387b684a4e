use Rattle.card_past.proofs.Keeping.{copy-stands, some-value}
use Rattle.card_past.proofs.book_if_any.BookIfAny.copy.Goals as goal

pub returns-in_ok-copy-in-Some-clause-stands : goal.returns-in_ok-copy-in-Some-clause-stands
returns-in_ok-copy-in-Some-clause-stands c =
    copy-stands c.args.self.now c.deref.result.now c.in_ok-copy-in-Some.copy c.of.result (some-value _ c.self.view_is c.in-Some.is c.deref.ensures) c.of.ensures c.in_ok-copy-in-Some.ensures.stands
