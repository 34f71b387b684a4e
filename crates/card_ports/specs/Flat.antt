-- Rows whose bytes lie one behind the other: the bytes, and for each row its number and where its bytes end.
use Rattle.std.specs.Prelude.{◌≡◌, ℕ, ◌+◌, ◌-◌, List, [], ◌∷◌, ◌++◌, length, take, drop, get_or}
use Rattle.card_ports.specs.declared.row.Row.{Row}
use Rattle.card_ports.specs.declared.rows.Cut.{Cut}

-- the rows that are cut so out of the bytes, the first of which stands at a place
unfoldable pub unpacked : ℕ → List Cut → List ℕ → List Row
unpacked from [] bytes = []
unpacked from (c ∷ cuts) bytes = record { seq = c.seq; body = take (c.end - from) bytes } ∷ unpacked c.end cuts (drop (c.end - from) bytes)

-- the bytes of all rows, one behind the other
unfoldable pub bytes_of : List Row → List ℕ
bytes_of [] = []
bytes_of (r ∷ rows) = r.body ++ bytes_of rows

-- the numbers of the rows, and where each one's bytes end, from a place on
unfoldable pub cuts_of : ℕ → List Row → List Cut
cuts_of from [] = []
cuts_of from (r ∷ rows) = record { seq = r.seq; end = from + length r.body } ∷ cuts_of (from + length r.body) rows

-- this is how the rows lie that are cut out of the bytes
pub record ArePacked (cuts : List Cut) (bytes : List ℕ) : Type 0 where
  pub cuts_are : cuts ≡ cuts_of 0 (unpacked 0 cuts bytes)
  pub bytes_are : bytes ≡ bytes_of (unpacked 0 cuts bytes)

-- the row at a place, where there is one
abbrev pub row_at : List Row → ℕ → Row
row_at rows i = get_or rows i (record { seq = 0; body = [] })
