use Rattle.card_daily.specs.Given.{Tallies}
use Rattle.card_daily.specs.Posts.{done_by}
use Rattle.card_daily.specs.Stands.{AreAmid, Begins, KeepsRoom}
use Rattle.card_daily.proofs.posts.post_day.Given as goal

abbrev pub invariant-loop-place : goal.invariant-loop-place
invariant-loop-place l = record {
  amid : AreAmid l.inputs l.day (done_by l.inputs l.day l.place) l.state l.track;
  begins : Begins l.fn.track l.track;
  room : KeepsRoom l.fn.track l.track;
  tally : Tallies l.inputs l.day l.tally;
}
