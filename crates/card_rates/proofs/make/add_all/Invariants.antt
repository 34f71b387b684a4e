use Rattle.std.proofs.Common.{◌≡◌, ◌+◌, ◌≤◌, ◌++◌, length, take, drop}
use Rattle.std.specs.List.{count_by, filter_map}
use Rattle.card_events.specs.History.{adds_segment}
use Rattle.card_model.specs.Rates.{lowering_of}
use Rattle.card_rates.specs.Added.{added_from}
use Rattle.card_rates.proofs.make.add_all.Given as goal

abbrev pub invariant-loop-i : goal.invariant-loop-i
invariant-loop-i l = record {
  segments : l.segments.items ++ added_from (l.i + 1) (length l.segments.items + 2) (drop l.i l.posts.history) ≡ l.initial.segments.items ++ added_from 1 (length l.initial.segments.items + 2) l.posts.history;
  caps : l.caps.items ≡ l.initial.caps.items ++ filter_map (λ k. lowering_of k.post) (take l.i l.posts.history);
  few : length l.segments.items + count_by (λ k. adds_segment k.post) (drop l.i l.posts.history) ≤ 62;
}
