use Rattle.std.proofs.Common.{arith}
use Rattle.card_replay.proofs.Again.{at-closing, ends-are}
use Rattle.card_replay.proofs.rewinding.at_closing.Goals as goal

pub index-since-requires : goal.index-since-requires
index-since-requires c = omega (arith, c.requires.closed, c.requires.marked, c.requires.some, c.args.past.now.since.ok.0)

pub returns : goal.returns
returns c =
    let past = c.args.past.now in
    let at = c.ends_at-ends.ensures in
    let was = c.in_ok-earlier.ensures in
    at-closing c.args.book.now past c.ends_at-ends.result c.in_ok-earlier.earlier
    (λ g from number. ends-are g from past c.ends_at-ends.result number at.cycles at.none at.some at.fees at.accrued)
    c.requires.some c.index-since.ensures c.deref.ensures.value was.stands was.day was.whole
