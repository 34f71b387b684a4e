-- The accepted shared requests, as accounts read them: holidays (12 CFR 1026.10), penalty fees (12 CFR 1026.52(b)(1)(ii)) and
-- the index (12 CFR 1026.55(b)(2)).
use Rattle.std.specs.Prelude.{ℕ, ◌+◌, ◌≤◌, ◌==◌, nat_lt, if◌then◌else◌, List, [], ◌∷◌, Option, Some, None}
use Rattle.std.specs.List.{filter_map, fold}
use Rattle.card_events.specs.declared.request.Shared.{Shared}
use Rattle.card_events.specs.declared.request.Shared.TheVariants as shared

-- the penalty fees from a day on, in cents
pub record FeeRow : Type 0 where
  pub day : ℕ
  pub first : ℕ
  pub repeat : ℕ

-- the index from a day on, in basis points
pub record IndexRow : Type 0 where
  pub day : ℕ
  pub rate : ℕ

-- the rows that accounts read
pub record SharedRows : Type 0 where
  pub holidays : List ℕ
  pub fees : List FeeRow
  pub index : List IndexRow

-- the day of a holiday
abbrev pub holiday_of : Shared → Option ℕ
holiday_of (shared.Holiday day) = Some day
holiday_of _ = None

-- the amounts of a fee row
abbrev pub fee_row_of : Shared → Option FeeRow
fee_row_of (shared.FeeRow day first repeat) = Some (record { day = day; first = first; repeat = repeat })
fee_row_of _ = None

-- ---- the index
-- the day and rate of an index row
abbrev pub index_row_of : Shared → Option IndexRow
index_row_of (shared.Index day rate) = Some (record { day = day; rate = rate })
index_row_of _ = None

-- ascending, each day once, from a day on
unfoldable pub AreByDay : ℕ → List IndexRow → Type 0
AreByDay low [] = Unit {0}
AreByDay low (r ∷ rs) = (low ≤ r.day) × AreByDay (r.day + 1) rs

-- the rows with one more, by day, each day once: of two for one day the later one stays
unfoldable pub with_index : IndexRow → List IndexRow → List IndexRow
with_index row [] = row ∷ []
with_index row (r ∷ rs) =
    let later = r ∷ with_index row rs in
    let same = if row.day == r.day then row ∷ rs else later in
    if nat_lt row.day r.day then row ∷ r ∷ rs else same

-- rows as they were accepted, by day
abbrev pub rows_by_day : List IndexRow → List IndexRow
rows_by_day rows = fold (λ all row. with_index row all) [] rows

-- ---- all of them
-- the rows of the accepted shared requests
abbrev pub shared_rows : List Shared → SharedRows
shared_rows requests =
    record {
      holidays = filter_map holiday_of requests;
      fees = filter_map fee_row_of requests;
      index = rows_by_day (filter_map index_row_of requests);
    }
