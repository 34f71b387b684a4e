use Rattle.card_effects.proofs.Standing.{fee-stands, handed}
use Rattle.card_effects.proofs.returns.charge_fee.Goals as goal

pub returns-clause-stands : goal.returns-clause-stands
returns-clause-stands c a seen b s e =
    fee-stands a seen b c.args.rates.now c.args.segments.now c.debit.new.self c.args.out.now.items c.debit.new.out.items c.args.slot.now.day c.args.slot.now.number c.newest-segment.result _ c.args.fee.now c.note_of-note.result
    c.requires.rated.numbers s e c.note_of-note.ensures c.newest-segment.ensures.value (handed c.args.fee.now.cents c.requires.amount c.requires.limit)
    (record { low = c.newest-segment.ensures.billed.low; known = c.newest-segment.ensures.billed.known; moved = c.in_ok-debit.ensures.ok; grown = c.in_ok-debit.ensures.entries })
