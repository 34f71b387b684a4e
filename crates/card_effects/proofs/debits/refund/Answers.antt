use Rattle.card_effects.proofs.Standing.{refund-stands, handed}
use Rattle.card_effects.proofs.debits.refund.Goals as goal

pub returns-clause-stands : goal.returns-clause-stands
returns-clause-stands c cents a seen issued p b s is =
    refund-stands issued a seen p b cents c.args.rates.now c.args.segments.now c.debit.new.self c.args.out.now.items c.debit.new.out.items c.args.slot.now c.note_of-note.result c.newest-segment.result _
    c.requires.asked.rated.numbers s is c.note_of-note.ensures c.newest-segment.ensures.value (handed c.args.slot.now.cents c.requires.asked.amount c.requires.asked.limit)
    (record { low = c.newest-segment.ensures.billed.low; known = c.newest-segment.ensures.billed.known; moved = c.in_ok-debit.ensures.ok; grown = c.in_ok-debit.ensures.entries })
