use Rattle.std.proofs.Common.{◌≡◌, ◌<◌, ◌≤◌, ℕ, take}
use Rattle.card_closing.specs.Rows.{repaid_later}
use Rattle.card_closing.proofs.runs.next_repaid.Given as goal

abbrev pub invariant-loop-r : goal.invariant-loop-r
invariant-loop-r l = record {
  after : l.day < l.next;
  within : l.next ≤ l.end;
  same : (d : ℕ) → l.day ≤ d → d < l.next → repaid_later (take l.r-index l.repaid) d l.due ≡ repaid_later (take l.r-index l.repaid) l.day l.due;
}
