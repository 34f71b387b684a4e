use Rattle.std.proofs.Common.{◌≡◌, ◌≤◌, take, drop, length, vec_len, vec_capacity}
use Rattle.card_posts.specs.Change.{AgreeBut}
use Rattle.card_posts.specs.Effect.{effects}
use Rattle.card_posts.specs.Stored.{AreOrdered}
use Rattle.card_posts.proofs.refresh.refresh.Given as goal

abbrev pub invariant-loop-j : goal.invariant-loop-j
invariant-loop-j l = record {
  long : length l.effects ≡ length l.initial.effects;
  left : AgreeBut (drop l.j l.numbers) l.effects (take (length l.initial.effects) (effects l.anchor l.calendar l.history));
  ordered : AreOrdered l.order.items l.effects;
  len : vec_len l.order ≡ vec_len l.initial.order;
  capacity : vec_capacity l.initial.order ≤ vec_capacity l.order;
}
