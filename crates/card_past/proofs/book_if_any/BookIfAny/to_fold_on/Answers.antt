use Rattle.card_past.proofs.Keeping.{copy-to-fold, none-value, some-value, start-to-fold}
use Rattle.card_past.proofs.book_if_any.BookIfAny.to_fold_on.Goals as goal

pub returns-in-Some-clause-stands : goal.returns-in-Some-clause-stands
returns-in-Some-clause-stands c = copy-to-fold c.args.inputs.now c.args.self.now c.deref.result.now c.copy.result (some-value _ c.self.view_is c.in-Some.is c.deref.ensures) c.copy.ensures.stands

pub returns-in-None-clause-stands : goal.returns-in-None-clause-stands
returns-in-None-clause-stands c = start-to-fold c.args.inputs.now c.args.self.now c.start.result (none-value _ c.self.view_is c.in-None.is) c.start.ensures.stands
