-- The index of a day, told by the rows in the order in which they were accepted (12 CFR 1026.55(b)(2)).
use Rattle.std.specs.Prelude.{◌≡◌, ℕ, nat_lt, nat_le, if◌then◌else◌, List, Option, Some, None}
use Rattle.std.specs.List.{filter, filter_map, fold}
use Rattle.std.specs.Option.{option_map}
use Rattle.card_events.specs.SharedRows.{IndexRow, index_row_of, shared_rows}
use Rattle.card_events.specs.declared.request.Shared.{Shared}
use Rattle.card_model.specs.Rates.{index_on}

-- of the row found so far and the next one the one with the later day, and of two for one day the second
abbrev pub newer : Option IndexRow → IndexRow → Option IndexRow
newer None r = Some r
newer (Some o) r = if nat_lt r.day o.day then Some o else Some r

-- the index of a day is that of the accepted row with the greatest day up to it, of two for one day the one accepted later
abbrev pub IndexIsTheLatest : Type 0
IndexIsTheLatest =
    (requests : List Shared) (day : ℕ)
    → index_on (shared_rows requests).index day
    ≡ option_map (λ r. r.rate) (fold newer None (filter (λ r. nat_le r.day day) (filter_map index_row_of requests)))
