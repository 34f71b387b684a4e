use Rattle.std.proofs.Common.{◌≡◌, ◌++◌, drop}
use Rattle.std.specs.List.{All, filter}
use Rattle.card_segments.specs.Holdings.{counts, holdings, holdings_from}
use Rattle.card_segments.proofs.Turn.{Roomy}
use Rattle.card_segments.proofs.allocation.holdings.Given as goal

abbrev pub invariant-loop-id : goal.invariant-loop-id
invariant-loop-id l = record {
  items : l.list.items ++ filter counts (holdings_from l.place l.id (drop l.id l.s.balances) (drop l.id l.ranks)) ≡ filter counts (holdings l.place l.s.balances l.ranks);
  room : All Roomy l.list.items;
}
