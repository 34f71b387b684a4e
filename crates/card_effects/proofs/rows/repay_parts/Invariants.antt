use Rattle.std.proofs.Common.{◌≡◌, length, map, take}
use Rattle.card_effects.specs.Repaid.{AreRepaid}
use Rattle.card_closing.specs.Rows.{without_post}
use Rattle.card_effects.proofs.rows.repay_parts.Given as goal

abbrev pub invariant-loop-i : goal.invariant-loop-i
invariant-loop-i l = record {
  repaid : AreRepaid l.slot.day l.slot.number (take l.i l.items) l.fn.rows l.rows;
  others : map (without_post l.slot.number) l.rows ≡ map (without_post l.slot.number) l.fn.rows;
  same : length l.rows ≡ length l.fn.rows;
}
