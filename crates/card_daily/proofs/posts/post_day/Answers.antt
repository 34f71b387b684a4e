use Rattle.std.proofs.Common.{arith, subst, refl}
use Rattle.card_daily.proofs.PostDay.{begins-twice, done-all, done-none, end-found, end-is, place-is}
use Rattle.card_daily.proofs.Posting.{begins-kept}
use Rattle.card_daily.proofs.Standing.{room-same, room-then}
use Rattle.card_daily.specs.Stands.{AreAmid}
use Rattle.card_daily.proofs.posts.post_day.Goals as goal

pub loop-place-init : goal.loop-place-init
loop-place-init c =
    let g = c.args.inputs.now in
    let first = place-is g c.args.day c.place_near-first.result c.posts-posts.result.now c.posts-posts.ensures.stands c.posts-posts.ensures.history (c.place_near-first.ensures g.shared.holidays c.posts-posts.ensures.stands) in
    record {
      amid = subst (λ done. AreAmid g c.args.day done c.args.state.now c.args.track.now) (done-none g c.args.day c.place_near-first.result first) c.requires.amid;
      begins = begins-kept c.args.track.now c.args.track.now refl refl refl;
      room = room-same c.args.track.now;
      tally = c.requires.tally;
    }

pub enter-requires-clause-from : goal.enter-requires-clause-from
enter-requires-clause-from c =
    let g = c.args.inputs.now in
    let first = place-is g c.args.day c.place_near-first.result c.posts-posts.result.now c.posts-posts.ensures.stands c.posts-posts.ensures.history (c.place_near-first.ensures g.shared.holidays c.posts-posts.ensures.stands) in
    let low = c.loop-place.auto.place in
    omega (arith, first, low)

pub enter-requires-clause-within : goal.enter-requires-clause-within
enter-requires-clause-within c =
    let g = c.args.inputs.now in
    let end = end-found g c.args.day c.place_near-first.result c.end_of-end.result c.posts-posts.result.now c.in_order.result.now c.posts-posts.ensures.stands c.posts-posts.ensures.history (c.place_near-first.ensures g.shared.holidays c.posts-posts.ensures.stands) c.in_order.ensures.order c.end_of-end.ensures in
    let next = end-is g c.args.day in
    let less = c.loop-place-test.true in
    omega (arith, end, next, less)

pub loop-place-preserved : goal.loop-place-preserved
loop-place-preserved c = record {
  amid = c.in_ok-enter.ensures.amid;
  begins = begins-twice c.args.track.now c.loop-place.track c.enter.new.track c.loop-place.invariant.begins c.enter.ensures.begins;
  room = room-then c.args.track.now c.loop-place.track c.enter.new.track c.loop-place.invariant.room c.enter.ensures.room;
  tally = c.enter.ensures.tally;
}

pub returns-clause-posted : goal.returns-clause-posted
returns-clause-posted c =
    let g = c.args.inputs.now in
    let end = end-found g c.args.day c.place_near-first.result c.end_of-end.result c.posts-posts.result.now c.in_order.result.now c.posts-posts.ensures.stands c.posts-posts.ensures.history (c.place_near-first.ensures g.shared.holidays c.posts-posts.ensures.stands) c.in_order.ensures.order c.end_of-end.ensures in
    let next = end-is g c.args.day in
    let past = c.loop-place-test.false in
    subst (λ done. AreAmid g c.args.day done c.loop-place.state c.loop-place.track) (done-all g c.args.day c.loop-place.place (omega (arith, end, next, past))) c.loop-place.invariant.amid

pub returns-in_err-enter-clause-begins : goal.returns-in_err-enter-clause-begins
returns-in_err-enter-clause-begins c = begins-twice c.args.track.now c.loop-place.track c.enter.new.track c.loop-place.invariant.begins c.enter.ensures.begins

pub returns-in_err-enter-clause-room : goal.returns-in_err-enter-clause-room
returns-in_err-enter-clause-room c = room-then c.args.track.now c.loop-place.track c.enter.new.track c.loop-place.invariant.room c.enter.ensures.room
