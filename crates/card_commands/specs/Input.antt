-- The lines of an input.
use Rattle.std.specs.Prelude.{ℕ, ◌^◌, nat_lt, ◌==◌, if◌then◌else◌, List, [], ◌∷◌, ◌++◌, length, map}
use Rattle.std.specs.Str.Lines.{strip_carriage_return}
use Rattle.card_lines.specs.declared.line.Line.{Line}
use Rattle.card_lines.specs.declared.line.Line.TheVariants as line
use Rattle.card_lines.specs.Lines.{line_of}
use Rattle.card_text.specs.declared.item.Item.{Item}
use Rattle.card_text.specs.Import.{items_of_bytes}
use Rattle.card_commands.specs.Items.{numbered}

-- the bytes before the first line feed, and the parts behind it, cut at line feeds
abbrev pub first_part : List ℕ → List ℕ
first_part [] = []
first_part (b ∷ bs) = if b == 10 then [] else b ∷ first_part bs

abbrev pub other_parts : List ℕ → List (List ℕ)
other_parts [] = []
other_parts (b ∷ bs) = if b == 10 then first_part bs ∷ other_parts bs else other_parts bs

-- all parts but the last, each of which a line feed ends
abbrev pub ended : List ℕ → List (List ℕ) → List (List ℕ)
ended part [] = []
ended part (other ∷ others) = part ∷ ended other others

-- the last part, which none ends
abbrev pub unended : List ℕ → List (List ℕ) → List ℕ
unended part [] = part
unended part (other ∷ others) = unended other others

-- what a line says that a line feed ends: at most 512 bytes, where one carriage return at the end doesn't count
unfoldable pub ended_line : List ℕ → Line
ended_line raw = if nat_lt 512 (length raw) then line.Bad 0 else line_of (strip_carriage_return raw)

-- the lines that line feeds end
abbrev pub ended_lines : List ℕ → List Line
ended_lines bs = map ended_line (ended (first_part bs) (other_parts bs))

-- the end of the input ends a last line that isn't empty
abbrev pub last_line : List ℕ → List Line
last_line [] = []
last_line (b ∷ bs) = line_of (b ∷ bs) ∷ []

abbrev pub all_lines : List ℕ → List Line
all_lines bs = ended_lines bs ++ last_line (unended (first_part bs) (other_parts bs))

-- how bytes are cut in items: those that are whole, all at the end of an input, and how many bytes are read at most
pub record Cut : Type 0 where
  pub whole : List ℕ → List Item
  pub all : List ℕ → List Item
  pub limit : ℕ

abbrev pub ended_items : List ℕ → List Item
ended_items bs = numbered 1 (ended_lines bs)

abbrev pub all_items : List ℕ → List Item
all_items bs = numbered 1 (all_lines bs)

-- by lines
abbrev pub lines : Cut
lines = record { whole = ended_items; all = all_items; limit = 2 ^ 36 }

-- by records of CSV: none is whole before the end of the input
abbrev pub records : Cut
records = record { whole = λ _. []; all = items_of_bytes; limit = 2 ^ 30 }
