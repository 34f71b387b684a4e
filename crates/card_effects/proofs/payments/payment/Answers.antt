use Rattle.std.proofs.Common.{refl, arith}
use Rattle.std.specs.Prelude.{◌≤ℤ◌, pos}
use Rattle.std.proofs.lemmas.Int.{ints}
use Rattle.card_effects.specs.Ranks.{ranks_on}
use Rattle.card_effects.proofs.Repaid.{payment-stands, ranks-seen}
use Rattle.card_effects.proofs.Standing.{handed, slot-day}
use Rattle.card_effects.proofs.payments.payment.Goals as goal
use Rattle.card_model.specs.Limits.{balance_limit}

pub returns-clause-stands : goal.returns-clause-stands
returns-clause-stands c day minute cents by issued a seen p b s is split =
    let high : c.args.minimum_part ≤ℤ pos balance_limit = omega (arith, ints, c.requires.within, c.requires.asked.limit) in
    payment-stands issued a seen p b day minute cents by c.args.rates.now c.args.segments.now c.take.new.s c.args.out.now.items c.take.new.out.items c.args.slot.now c.args.following_closing _ _ c.args.minimum_part
    (ranks_on c.args.index.now c.args.rates.now c.args.following_closing c.args.slot.now.day) c.note_of-note.result c.in_ok-parts.parts
    c.requires.asked.rated.numbers c.in_ok-parts.ensures.all s is split.following split.minimum
    (ranks-seen c.args.index.now seen c.args.rates.now c.args.following_closing c.args.slot.now.day (slot-day seen p c.args.slot.now is) split.index)
    (handed c.args.minimum_part c.requires.minimum high) refl c.in_ok-parts.ensures.parts c.note_of-note.ensures
    (record { whole = c.in_ok-parts.ensures.whole; moved = c.in_ok-take.ensures.ok; grown = c.in_ok-take.ensures.entries })
