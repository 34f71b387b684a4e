use Rattle.std.proofs.Common.{◌≡◌, ◌+◌, ◌≤◌, drop, length, take}
use Rattle.std.specs.Vec.{vec_capacity}
use Rattle.card_past.specs.Making.{AreToMake, steps_on}
use Rattle.card_past.specs.Owes.{bills_in}
use Rattle.card_book.specs.Stands.{day_to_fold}
use Rattle.card_past.specs.Pasts.{PastBegins}
use Rattle.card_past.specs.Foldings.{day_of}
use Rattle.card_past.specs.Waiting.{given_by}
use Rattle.card_past.proofs.making.make_all.Given as goal

abbrev pub invariant-loop-i : goal.invariant-loop-i
invariant-loop-i g l = record {
  left : AreToMake l.shared l.posts.history l.told.rows l.issued.items (drop l.i (bills_in l.owed)) l.fn._today l.later l.past;
  steps : l.steps + steps_on l.shared l.posts.history l.told.rows l.fn._today l.later ≡ l.fn.steps + steps_on l.shared l.posts.history l.told.rows l.fn._today l.fn.book;
  within : day_to_fold (given_by l.posts.history l.told.rows l.shared) (day_of l.fn.book) ≤ l.fn._today + 1 → day_to_fold (given_by l.posts.history l.told.rows l.shared) (day_of l.later) ≤ l.fn._today + 1;
  front : take (length l.fn.issued.items) l.issued.items ≡ l.fn.issued.items;
  capacity : vec_capacity l.fn.issued ≤ vec_capacity l.issued;
  begins : PastBegins l.fn.past l.past;
}
