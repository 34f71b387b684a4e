use Rattle.std.proofs.Common.{◌≡◌, ◌+◌, ◌-◌, true}
use Rattle.card_book.specs.Stands.{day_to_fold, steps_over}
use Rattle.card_past.specs.Pasts.{PastBegins}
use Rattle.card_past.specs.Foldings.{IsFoldedBefore}
use Rattle.card_past.proofs.folding.fold_on.Given as goal

abbrev pub invariant-loop-closing : goal.invariant-loop-closing
invariant-loop-closing g l = record {
  whole : l.book.whole ≡ true;
  folded : IsFoldedBefore l.inputs l.book l.past l.to;
  steps : l.steps + steps_over l.inputs l.to (day_to_fold l.inputs l.book.day) ≡ l.fn.steps + steps_over l.inputs l.to (day_to_fold l.inputs l.fn.book.day);
  begins : PastBegins l.fn.past l.past;
}

-- each closing makes the days that are left fewer
abbrev pub decreases-loop-closing : goal.decreases-loop-closing
decreases-loop-closing g l = l.to + 1 - day_to_fold l.inputs l.book.day
