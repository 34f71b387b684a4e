use Rattle.std.proofs.Common.{◌≡◌, ◌<◌, ◌^◌, ℕ, true, List, take, drop}
use Rattle.std.specs.Char.{is_ascii_digit}
use Rattle.std.specs.List.{list_all}
use Rattle.card_lines.specs.Forms.{value_after}
use Rattle.card_lines.proofs.forms.read_digits.Given as goal

-- the first i bytes are digits, and make the number v
pub record DigitsSoFar (text : List ℕ) (i v : ℕ) : Type 0 where
  pub digits : list_all is_ascii_digit (take i text) ≡ true
  pub number : value_after v (drop i text) ≡ value_after 0 text
  pub below : v < 10 ^ i

abbrev pub invariant-loop-b : goal.invariant-loop-b
invariant-loop-b l = DigitsSoFar l.text l.b-index l.value
