use Rattle.std.proofs.Common.{◌≡◌, ◌-◌, ◌≤◌, length, drop}
use Rattle.std.specs.Prelude.{option_copied, vec_capacity}
use Rattle.card_closing.specs.Interest.{accrual_charge, amounts_of, note_on}
use Rattle.card_closing.specs.Turns.{AreInStep, BeginsWith, asked_where_owed, in_turn}
use Rattle.card_closing.proofs.interest.charge_accruals.Given as goal

abbrev pub invariant-loop-id : goal.invariant-loop-id
invariant-loop-id l = record {
  turn :
      (record { amounts = l.done; entries = l.out.items })
      ≡ in_turn (option_copied l.issued) (note_on l.closing.closing) (asked_where_owed (amounts_of (accrual_charge l.closing.closing) (drop 2 l.initial.segments.segments) l.accruals)) (l.id - 2) (record { amounts = l.initial.done; entries = l.initial.out.items });
  step : AreInStep l.segments l.out.items;
  segments : l.segments.segments ≡ l.initial.segments.segments;
  balances : length l.segments.balances ≡ length l.initial.segments.balances;
  begins : BeginsWith l.initial.out.items l.out.items;
  capacity : vec_capacity l.initial.out ≤ vec_capacity l.out;
}
