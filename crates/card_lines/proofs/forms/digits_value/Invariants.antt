use Rattle.std.proofs.Common.{◌≡◌, drop}
use Rattle.card_lines.specs.Forms.{value_after}
use Rattle.card_lines.proofs.forms.digits_value.Given as goal

abbrev pub invariant-loop-b : goal.invariant-loop-b
invariant-loop-b l = value_after l.value (drop l.b-index l.text) ≡ value_after 0 l.text
