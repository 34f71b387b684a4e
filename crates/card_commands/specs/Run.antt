-- A run over items.
use Rattle.std.specs.Prelude.{ℕ, Bool, false, ◌||◌, List, [], ◌∷◌, ◌++◌}
use Rattle.card_ports.specs.declared.row.Row.{Row}
use Rattle.card_model.specs.Machine.{State}
use Rattle.card_text.specs.declared.item.Item.{Item}
use Rattle.card_commands.specs.Answers.{next, answer_text, is_refused, item_rows}

-- the ledger after items
abbrev pub after : State → List Item → State
after s [] = s
after s (x ∷ xs) = after (next s x) xs

-- what is written for them
abbrev pub text_of : State → List Item → List ℕ
text_of s [] = []
text_of s (x ∷ xs) = answer_text s x ++ text_of (next s x) xs

-- whether `no` or `bad` is written for one of them
abbrev pub any_refused : State → List Item → Bool
any_refused s [] = false
any_refused s (x ∷ xs) = is_refused s x || any_refused (next s x) xs

-- the rows that are kept of them
abbrev pub rows_kept : State → List Item → List Row
rows_kept s [] = []
rows_kept s (x ∷ xs) = item_rows s x ++ rows_kept (next s x) xs
