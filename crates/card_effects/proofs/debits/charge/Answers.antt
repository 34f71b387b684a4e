use Rattle.card_effects.proofs.Standing.{charge-stands, handed}
use Rattle.card_effects.proofs.debits.charge.Goals as goal

pub returns-clause-stands : goal.returns-clause-stands
returns-clause-stands c day cents a seen issued p b s is =
    charge-stands issued a seen p b day cents c.args.rates.now c.args.segments.now c.debit.new.self c.args.out.now.items c.debit.new.out.items c.args.slot.now c.args.place.now c.note_of-note.result c.segment_at-segment.result _
    c.requires.asked.rated.numbers s is c.note_of-note.ensures c.segment_at-segment.ensures.value (handed c.args.slot.now.cents c.requires.asked.amount c.requires.asked.limit)
    (record { low = c.segment_at-segment.ensures.billed.low; known = c.segment_at-segment.ensures.billed.known; moved = c.in_ok-debit.ensures.ok; grown = c.in_ok-debit.ensures.entries })
