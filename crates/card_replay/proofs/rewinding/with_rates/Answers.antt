use Rattle.std.proofs.Common.{sym, subst}
use Rattle.card_replay.proofs.Again.{closed-at, folded-before}
use Rattle.card_replay.specs.Rewinds.{IsAgain}
use Rattle.card_replay.proofs.rewinding.with_rates.Goals as goal

pub at_closing-requires-clause-folded : goal.at_closing-requires-clause-folded
at_closing-requires-clause-folded c = folded-before c.requires.change.before

pub at_closing-requires-clause-closed : goal.at_closing-requires-clause-closed
at_closing-requires-clause-closed c = closed-at c.requires.change.before c.requires.number

pub at_closing-requires-clause-marked : goal.at_closing-requires-clause-marked
at_closing-requires-clause-marked c = c.requires.change.before.folding.marks.count

pub renewed-requires : goal.renewed-requires
renewed-requires c =
    record {
      posts = (c.in_ok-earlier.ensures.rates c.args.inputs.now c.args.post.now c.args.from c.args.reached (record { change = c.requires.change; number = c.requires.number })).awaits;
    }

pub returns : goal.returns
returns c =
    let was = c.in_ok-renewed.ensures in
    subst (λ o. IsAgain c.args.inputs.now c.args.from c.args.reached c.args.past.now (record { book = o; ends = c.in_ok-earlier.earlier.ends })) (sym c.in_ok-book.ensures)
    ((c.in_ok-earlier.ensures.rates c.args.inputs.now c.args.post.now c.args.from c.args.reached (record { change = c.requires.change; number = c.requires.number })).again c.in_ok-renewed.renewed
    (record { day = was.day; whole = was.whole; stands = was.stands }))
