use Rattle.std.proofs.Common.{sym}
use Rattle.card_dayend.proofs.day.next_day.Goals as goal

pub row_day-requires-clause-amid : goal.row_day-requires-clause-amid
row_day-requires-clause-amid c = record {
  given = c.args.inputs.now;
  track = c.post_day.new.track;
  sound = c.opening_day-opening.ensures.sound;
  opened = c.requires.dated.opened;
  amid = c.in_ok-post_day.ensures.posted;
}

pub close_day-requires-clause-posted : goal.close_day-requires-clause-posted
close_day-requires-clause-posted c =
    c.in_ok-row_day.ensures.posted c.args.inputs.now c.post_day.new.track (sym c.index.ensures) c.opening_day-opening.ensures.sound c.requires.dated.opened c.in_ok-post_day.ensures.posted
