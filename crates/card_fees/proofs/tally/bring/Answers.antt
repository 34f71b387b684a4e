use Rattle.std.proofs.Common.{sym, ◌∙◌}
use Rattle.card_fees.specs.Tallied.{credited_since, paid_since, return_read}
use Rattle.card_fees.proofs.Tallied.{credited-unread, paid-unread, read-rest, return-unread}
use Rattle.card_fees.proofs.tally.bring.Goals as goal

pub returns-then-not-reaches-clause-paid : goal.returns-then-not-reaches-clause-paid
returns-then-not-reaches-clause-paid c =
    let posts = c.args.posts.now in
    c.loop-slot.invariant.0
    ∙ read-rest (paid_since c.args.until.now posts.history posts.corrected c.args.from) c.args.until.now c.args.slots.now c.loop-slot.slot-index c.slot-item.result
    (paid-unread c.args.until.now posts.history posts.corrected c.args.from) c.requires.order c.slot-item.is (sym c.reaches.ensures ∙ c.if-not-reaches.true)

pub returns-then-not-reaches-clause-credited : goal.returns-then-not-reaches-clause-credited
returns-then-not-reaches-clause-credited c =
    let posts = c.args.posts.now in
    c.loop-slot.invariant.1
    ∙ read-rest (credited_since c.args.until.now posts.history c.args.from) c.args.until.now c.args.slots.now c.loop-slot.slot-index c.slot-item.result
    (credited-unread c.args.until.now posts.history c.args.from) c.requires.order c.slot-item.is (sym c.reaches.ensures ∙ c.if-not-reaches.true)

pub returns-then-not-reaches-clause-returns : goal.returns-then-not-reaches-clause-returns
returns-then-not-reaches-clause-returns c =
    let posts = c.args.posts.now in
    c.loop-slot.invariant.2
    ∙ read-rest (return_read c.args.until.now posts.history) c.args.until.now c.args.slots.now c.loop-slot.slot-index c.slot-item.result
    (return-unread c.args.until.now posts.history) c.requires.order c.slot-item.is (sym c.reaches.ensures ∙ c.if-not-reaches.true)
