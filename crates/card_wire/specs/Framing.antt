-- How long a body is.
use Rattle.std.specs.Prelude.{ℕ, Bool, ◌&&◌, ◌==◌, nat_lt, nat_le, if◌then◌else◌, List, length, map, Option, Some, None, codes, slice_get, option_and_then}
use Rattle.std.specs.Char.{is_ascii_digit, to_ascii_lowercase}
use Rattle.std.specs.List.{filter, list_all}
use Rattle.std.specs.Str.{bytes_eq}
use Rattle.card_lines.specs.Forms.{value_after}

-- the same name, whatever the case of its letters
abbrev pub is_named : List ℕ → List ℕ × List ℕ → Bool
is_named name field = bytes_eq (map to_ascii_lowercase field.0) (map to_ascii_lowercase name)

-- the values of the fields of this name, in turn
abbrev pub values_named : List ℕ → List (List ℕ × List ℕ) → List (List ℕ)
values_named name fields = map (λ field. field.1) (filter (is_named name) fields)

-- 1 to 9 digits, with leading zeros or without
unfoldable pub length_of : List ℕ → Option ℕ
length_of text =
    if nat_lt 0 (length text) && (nat_le (length text) 9 && list_all is_ascii_digit text) then Some (value_after 0 text) else None

-- The length of the body that the fields give, 0 where no Content-Length is there. None: a Transfer-Encoding is there, or
-- Content-Length twice, or it isn't 1 to 9 digits
unfoldable pub body_length : List (List ℕ × List ℕ) → Option ℕ
body_length fields =
    if nat_lt 0 (length (values_named (codes "transfer-encoding") fields)) then None
    else if length (values_named (codes "content-length") fields) == 0 then Some 0
    else if length (values_named (codes "content-length") fields) == 1 then option_and_then length_of (slice_get (values_named (codes "content-length") fields) 0)
    else None
