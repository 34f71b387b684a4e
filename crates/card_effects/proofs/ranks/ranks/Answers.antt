use Rattle.std.proofs.Common.{◌-◌, ◌<◌, length, arith}
use Rattle.card_effects.specs.Ranks.{rank_on}
use Rattle.card_effects.proofs.Places.{how-many, no_segment}
use Rattle.card_effects.proofs.Reached.{rank-pushed}
use Rattle.card_effects.proofs.ranks.ranks.Goals as goal

pub loop-id-preserved : goal.loop-id-preserved
loop-id-preserved c =
    let gs = c.args.rates.now.segments in
    let id = c.loop-id.id in
    let n = how-many c.args.segments.now.segments gs c.requires.kept in
    let l : id - 2 < length gs = omega (arith, n, c.len-id-end.ensures.segments, c.len-id-end.ensures.five) in
    rank-pushed (rank_on c.args.index.now c.args.rates.now c.args.until c.args.day) gs no_segment c.loop-id.list.items c.add-in-loop-id.new.list.items _ c.rank-rank.result id (omega arith) l c.in_ok-add-3.ensures (c.rank-rank.ensures no_segment) c.loop-id.invariant
