use Rattle.std.proofs.Common.{◌≡◌, ◌≤◌, ◌+◌, ◌*◌, ◌^◌, ℕ, drop, take}
use Rattle.std.specs.List.{All}
use Rattle.card_events.specs.Range.{first_calendar_day, last_calendar_day}
use Rattle.card_model.specs.declared.entry.EntryKind.{EntryKind}
use Rattle.card_trial.specs.Sums.{amount_of, cell, size, sum_on, whole}
use Rattle.card_trial.proofs.sums.Sums.put_in.Given as goal

abbrev pub invariant-loop-i : goal.invariant-loop-i
invariant-loop-i l = record {
  cells : (x : ℕ) (k : EntryKind) → first_calendar_day ≤ x → x ≤ last_calendar_day → cell x k l.self + sum_on l.side x k (drop l.i l.entries) ≡ cell x k l.fn.self + sum_on l.side x k l.entries;
  rest : whole l.self + size l.side (drop l.i l.entries) ≡ whole l.fn.self + size l.side l.entries;
  most : size l.side l.entries ≤ size l.side (drop l.i l.entries) + l.i * 2 ^ 63;
  small : All (λ e. amount_of l.side e ≤ 2 ^ 63) (take l.i l.entries);
}
