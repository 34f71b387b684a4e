use Rattle.std.proofs.Common.{◌≡◌, take}
use Rattle.std.specs.List.{flat_map}
use Rattle.std.specs.String.{string_bytes}
use Rattle.card_trial.specs.Trial.{kind_line}
use Rattle.card_trial.proofs.text.kind_lines.Given as goal

abbrev pub invariant-loop-i : goal.invariant-loop-i
invariant-loop-i l = string_bytes l.text ≡ flat_map (kind_line l.from l.to l.ledger.desk.recorded) (take l.i l.kinds)
