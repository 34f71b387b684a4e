-- The fee table: rows in the order in which they were added (12 CFR 1026.52(b)(1)(ii)).
use Rattle.std.specs.Prelude.{ℤ, pos}
use Rattle.card_events.specs.SharedRows.{FeeRow}

-- the first and the repeat amount of a row
abbrev pub amounts_of : FeeRow → ℤ × ℤ
amounts_of r = (pos r.first, pos r.repeat)
