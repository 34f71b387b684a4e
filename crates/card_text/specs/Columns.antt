-- The columns of a record, counted from 1.
use Rattle.std.specs.Prelude.{ℕ, ◌-◌, if◌then◌else◌, List, Option, Some, None, Result, Ok, Err}
use Rattle.std.specs.Option.{ok_or}
use Rattle.std.specs.Str.{bytes_eq}
use Rattle.csv.specs.Records.{field_at}

-- the value of a field, or its number where it is missing or not of the form
abbrev pub in_form : {A : Type 0} → (List ℕ → Option A) → ℕ → Option (List ℕ) → Result A ℕ
in_form form n None = Err n
in_form form n (Some f) = ok_or (form f) n

-- the column that has this number, in this form
abbrev pub column : {A : Type 0} → (List ℕ → Option A) → ℕ → List (List ℕ) → Result A ℕ
column form n fs = in_form form n (field_at fs (n - 1))

-- the form of nothing but this text
unfoldable pub exactly : List ℕ → List ℕ → Option (Unit {0})
exactly text f = if bytes_eq f text then Some tt else None

abbrev pub absent : ℕ → Option (List ℕ) → Result (Unit {0}) ℕ
absent n None = Ok tt
absent n (Some f) = Err n

-- there is no column that has this number
abbrev pub no_column : ℕ → List (List ℕ) → Result (Unit {0}) ℕ
no_column n fs = absent n (field_at fs (n - 1))
