use Rattle.std.proofs.Common.{refl}
use Rattle.card_effects.specs.Places.{numbers_of}
use Rattle.card_effects.specs.Ranks.{ranks_on}
use Rattle.card_effects.proofs.Repaid.{credit-stands, ranks-seen}
use Rattle.card_effects.proofs.Standing.{slot-day}
use Rattle.card_effects.proofs.payments.credit.Goals as goal

pub returns-clause-stands : goal.returns-clause-stands
returns-clause-stands c day cents issued a seen p b s is u =
    credit-stands issued a seen p b day cents c.args.place.now c.args.rates.now c.args.segments.now c.take.new.s c.args.out.now.items c.take.new.out.items c.args.slot.now c.args.following_closing _
    (ranks_on c.args.index.now c.args.rates.now c.args.following_closing c.args.slot.now.day) (numbers_of c.args.place.now c.args.rates.now.segments) c.note_of-note.result c.in_ok-parts.parts
    c.requires.asked.rated.numbers c.in_ok-parts.ensures.all s is u.following
    (ranks-seen c.args.index.now seen c.args.rates.now c.args.following_closing c.args.slot.now.day (slot-day seen p c.args.slot.now is) u.index)
    refl refl c.in_ok-parts.ensures.parts c.note_of-note.ensures
    (record { whole = c.in_ok-parts.ensures.whole; moved = c.in_ok-take.ensures.ok; grown = c.in_ok-take.ensures.entries })
