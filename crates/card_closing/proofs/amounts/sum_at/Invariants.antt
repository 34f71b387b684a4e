use Rattle.std.proofs.Common.{◌≡◌, ◌≤◌, ◌*◌, take}
use Rattle.card_model.specs.Cycles.{amount_at}
use Rattle.card_closing.proofs.amounts.sum_at.Given as goal

abbrev pub invariant-loop-item : goal.invariant-loop-item
invariant-loop-item l = (l.sum ≡ amount_at l.segment (take l.item-index l.items)) × (l.sum ≤ l.item-index * 18_446_744_073_709_551_615)
