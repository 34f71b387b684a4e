-- What all accounts share after one request more.
use Rattle.std.specs.Prelude.{◌≤◌, ◌++◌, [], ◌∷◌}
use Rattle.card_events.specs.Business.{with_holiday}
use Rattle.card_events.specs.Range.{last_request_day}
use Rattle.card_events.specs.Money.{rate_limit}
use Rattle.card_events.specs.SharedRows.{SharedRows, with_index}
use Rattle.card_events.specs.declared.request.Shared.{Shared}
use Rattle.card_events.specs.declared.request.Shared.TheVariants as shared

-- the holidays, the fee rows and the index with those that a request brings
abbrev pub loaded : Shared → SharedRows → SharedRows
loaded (shared.Roll day) rows = rows
loaded (shared.Holiday day) rows = record rows { holidays = with_holiday day rows.holidays }
loaded (shared.FeeRow day first repeat) rows = record rows { fees = rows.fees ++ record { day = day; first = first; repeat = repeat } ∷ [] }
loaded (shared.Index day rate) rows = record rows { index = with_index (record { day = day; rate = rate }) rows.index }

-- a holiday is at most 2099-12-31, fees are at most 100,000 cents, and an index is at most 9,999 basis points
abbrev pub IsLoadable : Shared → Type 0
IsLoadable (shared.Roll day) = Unit {0}
IsLoadable (shared.Holiday day) = day ≤ last_request_day
IsLoadable (shared.FeeRow day first repeat) = (first ≤ 100_000) × (repeat ≤ 100_000)
IsLoadable (shared.Index day rate) = rate ≤ rate_limit
