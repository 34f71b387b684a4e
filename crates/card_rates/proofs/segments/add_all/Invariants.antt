use Rattle.std.proofs.Common.{◌≡◌, ◌+◌, ◌++◌, drop}
use Rattle.card_rates.specs.Segments.{AreUnused, kept_from}
use Rattle.card_rates.proofs.segments.add_all.Given as goal

abbrev pub invariant-loop-i : goal.invariant-loop-i
invariant-loop-i l = record {
  segments : l.segments.segments ++ kept_from (l.i + 1) (drop l.i l.posts.history) ≡ l.initial.segments.segments ++ kept_from 1 l.posts.history;
  unused : AreUnused l.initial.segments → AreUnused l.segments;
}
