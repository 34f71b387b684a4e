-- A run over bytes, one by one.
use Rattle.std.specs.Prelude.{◌≢◌, ℕ, ◌+◌, ◌-◌, Bool, false, ◌||◌, nat_lt, ◌==◌, if◌then◌else◌, List, [], ◌∷◌, ◌++◌, length, take}
use Rattle.std.specs.List.{All}
use Rattle.card_ports.specs.declared.row.Row.{Row}
use Rattle.card_model.specs.Machine.{State}
use Rattle.card_lines.specs.Lines.{line_of}
use Rattle.card_lines.specs.declared.line.Line.{Line}
use Rattle.card_text.specs.declared.item.Item.{Item}
use Rattle.card_commands.specs.Answers.{next, answer_text, is_refused, item_rows}
use Rattle.card_commands.specs.Input.{ended_line}
use Rattle.card_commands.specs.Items.{item_of}

-- a run over items: the ledger, and whether one was refused
pub record Run : Type 0 where
  pub ledger : State
  pub refused : Bool

abbrev pub after_item : Run → Item → Run
after_item r x = record { ledger = next r.ledger x; refused = r.refused || is_refused r.ledger x }

-- how far a run is: the ledger, how many lines were handled, whether one was refused, and the front of the next line
pub record Progress : Type 0 where
  pub ledger : State
  pub number : ℕ
  pub refused : Bool
  pub line : List ℕ

-- of a line, no more is kept than shows that it is too long
abbrev pub longer_line : List ℕ → ℕ → List ℕ
longer_line line b = if nat_lt 512 (length line) then line else line ++ b ∷ []

-- no byte of a run ends a line
abbrev pub HasNoLineFeed : List ℕ → Type 0
HasNoLineFeed run = All (λ b. b ≢ 10) run

-- of a run behind a line, as much is kept as shows that the line is too long
abbrev pub kept_of : List ℕ → List ℕ → List ℕ
kept_of line run = take (513 - length line) run

-- the item of the next line
abbrev pub next_item : Progress → Line → Item
next_item p l = item_of (p.number + 1) l

-- after a line's item
abbrev pub handled : Progress → Item → Progress
handled p x = record { ledger = next p.ledger x; number = p.number + 1; refused = p.refused || is_refused p.ledger x; line = [] }

unfoldable pub line_done : Progress → Progress
line_done p = handled p (next_item p (ended_line p.line))

unfoldable pub line_text : Progress → List ℕ
line_text p = answer_text p.ledger (next_item p (ended_line p.line))

unfoldable pub line_kept : Progress → List Row
line_kept p = item_rows p.ledger (next_item p (ended_line p.line))

-- after a byte
unfoldable pub feed : Progress → ℕ → Progress
feed p b = if b == 10 then line_done p else record p { line = longer_line p.line b }

unfoldable pub feed_text : Progress → ℕ → List ℕ
feed_text p b = if b == 10 then line_text p else []

unfoldable pub feed_rows : Progress → ℕ → List Row
feed_rows p b = if b == 10 then line_kept p else []

-- after bytes
unfoldable pub feed_all : Progress → List ℕ → Progress
feed_all p [] = p
feed_all p (b ∷ bs) = feed_all (feed p b) bs

unfoldable pub text_all : Progress → List ℕ → List ℕ
text_all p [] = []
text_all p (b ∷ bs) = feed_text p b ++ text_all (feed p b) bs

unfoldable pub rows_all : Progress → List ℕ → List Row
rows_all p [] = []
rows_all p (b ∷ bs) = feed_rows p b ++ rows_all (feed p b) bs

-- a new run
abbrev pub new_run : State → Progress
new_run s = record { ledger = s; number = 0; refused = false; line = [] }

-- what is written for a last line that no line feed ends, what is kept of it, whether any line was refused, and the ledger after it
unfoldable pub end_text : Progress → List ℕ
end_text p = if length p.line == 0 then [] else answer_text p.ledger (next_item p (line_of p.line))

unfoldable pub end_rows : Progress → List Row
end_rows p = if length p.line == 0 then [] else item_rows p.ledger (next_item p (line_of p.line))

unfoldable pub end_refused : Progress → Bool
end_refused p = if length p.line == 0 then p.refused else p.refused || is_refused p.ledger (next_item p (line_of p.line))

unfoldable pub end_ledger : Progress → State
end_ledger p = if length p.line == 0 then p.ledger else next p.ledger (next_item p (line_of p.line))
