use Rattle.std.proofs.Common.{arith, sym, ap, ◌∙◌}
use Rattle.card_rates.specs.Laws.{segments_on}
use Rattle.card_effects.specs.Seen.{segment_of}
use Rattle.card_effects.proofs.HeldSegments.{segment-there}
use Rattle.card_effects.proofs.charges.segment_of.Goals as goal

pub returns-in-Some-clause-value : goal.returns-in-Some-clause-value
returns-in-Some-clause-value c history issued shared h = c.segment_in.ensures.value history issued shared h ∙ ap (segment_of (segments_on history issued shared c.args.today)) (sym c.in-Some.is)

pub returns-in-Some-clause-low : goal.returns-in-Some-clause-low
returns-in-Some-clause-low c history h =
    (segment-there history c.args.segments.now.segments c.args.rates.now c.args.today c.len-count.result c.segment_in.result c.args.charge.now h (sym c.len-count.ensures.segments) c.len-count.ensures.five
    (λ issued shared. c.segment_in.ensures.value history issued shared h ∙ ap (segment_of (segments_on history issued shared c.args.today)) (sym c.in-Some.is))).0

pub returns-in-Some-clause-known : goal.returns-in-Some-clause-known
returns-in-Some-clause-known c history h =
    let there = segment-there history c.args.segments.now.segments c.args.rates.now c.args.today c.len-count.result c.segment_in.result c.args.charge.now h (sym c.len-count.ensures.segments) c.len-count.ensures.five
    (λ issued shared. c.segment_in.ensures.value history issued shared h ∙ ap (segment_of (segments_on history issued shared c.args.today)) (sym c.in-Some.is)) in
    let high = there.1 in
    omega (arith, high, c.len-count.ensures.balances)
