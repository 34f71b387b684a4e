use Rattle.std.proofs.Common.{◌≡◌, ◌≤◌, nat_le, take, length}
use Rattle.std.specs.List.{filter}
use Rattle.card_book.proofs.folded.fees_up_to.Given as goal

abbrev pub invariant-loop-fee : goal.invariant-loop-fee
invariant-loop-fee l = record {
  counted : l.count ≡ length (filter (λ f. nat_le f.cycle l.cycle) (take l.fee-index l.fees));
  within : l.count ≤ l.fee-index;
}
