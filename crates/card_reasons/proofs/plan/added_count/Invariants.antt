use Rattle.std.proofs.Common.{◌≡◌, ◌+◌, ◌≤◌, drop}
use Rattle.std.specs.List.{count_by}
use Rattle.card_events.specs.History.{adds_segment}
use Rattle.card_reasons.proofs.plan.added_count.Given as goal

abbrev pub invariant-loop-i : goal.invariant-loop-i
invariant-loop-i l = record {
  counted : count_by (λ k. adds_segment k.post) l.posts.history ≡ l.count + count_by (λ k. adds_segment k.post) (drop l.i l.posts.history);
  few : l.count ≤ l.i;
}
