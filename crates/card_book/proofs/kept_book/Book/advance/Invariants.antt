use Rattle.std.proofs.Common.{◌≡◌, ◌+◌, ◌-◌, ◌≤◌, false}
use Rattle.card_book.specs.Stands.{StandsFor, day_to_fold, steps_over}
use Rattle.card_daily.specs.Stands.{Begins, KeepsRoom}
use Rattle.card_dayend.specs.Spans.{IsCursorOf}
use Rattle.card_book.proofs.kept_book.Book.advance.Given as goal

abbrev pub invariant-loop-alloc : goal.invariant-loop-alloc
invariant-loop-alloc g l = record {
  stands : StandsFor l.inputs l.self l.track;
  first : l.first ≡ day_to_fold l.inputs l.self.day;
  begun : day_to_fold l.inputs l.fn.self.day ≤ l.first;
  within : l.first ≤ l.to + 1;
  broken_off : l.self.whole ≡ false;
  steps : l.steps + steps_over l.inputs l.to l.first ≡ l.fn.steps + steps_over l.inputs l.to (day_to_fold l.inputs l.fn.self.day);
  most : l.steps ≤ l.fn.steps + (l.first - day_to_fold l.inputs l.fn.self.day);
  begins : Begins l.fn.track l.track;
  room : KeepsRoom l.fn.track l.track;
  cursor : IsCursorOf l.inputs l.cursor;
}

abbrev pub decreases-loop-alloc : goal.decreases-loop-alloc
decreases-loop-alloc g l = l.to + 1 - l.first
