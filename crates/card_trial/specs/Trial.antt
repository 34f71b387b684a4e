-- The text of a trial balance: ten lines.
use Rattle.std.specs.Prelude.{ℕ, List, [], ◌∷◌, ◌++◌, ℤ, pos, ◌-ℤ◌, codes}
use Rattle.std.specs.List.{flat_map}
use Rattle.card_desk.specs.Recorded.{all_entries}
use Rattle.card_events.specs.Money.{money_text}
use Rattle.card_model.specs.Machine.{State}
use Rattle.card_model.specs.declared.entry.Entry.{Entry}
use Rattle.card_model.specs.declared.entry.EntryKind.{EntryKind}
use Rattle.card_text.specs.Export.{kind_word}
use Rattle.card_trial.specs.Sums.{all_between, all_kinds, of_all_kinds}
use Rattle.card_trial.specs.declared.side.Side.TheVariants as side

-- a word, debits and credits
abbrev pub line : List ℕ → ℤ → ℤ → List ℕ
line word debits credits = word ++ 32 ∷ money_text debits ++ 32 ∷ money_text credits ++ 10 ∷ []

-- a word and an amount
abbrev pub amount_line : List ℕ → ℤ → List ℕ
amount_line word cents = word ++ 32 ∷ money_text cents ++ 10 ∷ []

-- `KIND DEBITS CREDITS`, of lists of entries
unfoldable pub kind_line : ℕ → ℕ → List (List Entry) → EntryKind → List ℕ
kind_line from to lists k = line (kind_word k) (pos (all_between side.Debits from to k lists)) (pos (all_between side.Credits from to k lists))

-- a line a kind
unfoldable pub kind_lines : ℕ → ℕ → List (List Entry) → List ℕ
kind_lines from to lists = flat_map (kind_line from to lists) all_kinds

-- `total DEBITS CREDITS`, and `change MONEY`, which is debits less credits
unfoldable pub end_lines : ℕ → ℕ → List ℕ
end_lines debits credits = line (codes "total") (pos debits) (pos credits) ++ amount_line (codes "change") (pos debits -ℤ pos credits)

-- all ten
unfoldable pub lines_text : ℕ → ℕ → List (List Entry) → List ℕ
lines_text from to lists = kind_lines from to lists ++ end_lines (of_all_kinds side.Debits from to lists) (of_all_kinds side.Credits from to lists)

-- of all accounts, at the end of today
unfoldable pub trial_text : ℕ → ℕ → State → List ℕ
trial_text from to s = lines_text from to (all_entries s)
