use Rattle.std.proofs.Common.{refl}
use Rattle.card_effects.proofs.Standing.{fee-stands, handed}
use Rattle.card_effects.proofs.debits.fee.Goals as goal

pub returns-clause-stands : goal.returns-clause-stands
returns-clause-stands c a seen b s e =
    fee-stands a seen b c.args.rates.now c.args.segments.now c.debit.new.self c.args.out.now.items c.debit.new.out.items c.args.day c.args.number c.newest-segment.result _ c.args.fee.now _
    c.requires.asked.rated.numbers s e refl c.newest-segment.ensures.value (handed c.args.fee.now.cents c.requires.asked.amount c.requires.asked.limit)
    (record { low = c.newest-segment.ensures.billed.low; known = c.newest-segment.ensures.billed.known; moved = c.in_ok-debit.ensures.ok; grown = c.in_ok-debit.ensures.entries })
