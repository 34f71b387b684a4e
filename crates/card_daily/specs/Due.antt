-- What a due date brings on the day after it (12 CFR 1026.52(b)(1)(ii), .55(b)(4)(ii)).
use Rattle.std.specs.Prelude.{ℕ, ◌+◌, ◌-◌, ◌==◌, if◌then◌else◌, [], Option, Some, None}
use Rattle.card_model.specs.Books.{Book}
use Rattle.card_model.specs.Cycles.{Cycle, IssuedRow, Seen, last_cycle}
use Rattle.card_model.specs.Fees.{late_fee, with_fee}
use Rattle.card_model.specs.declared.fee.Fee.{Fee}
use Rattle.card_daily.specs.Given.{Given, account_in, opened_in, row_in, seen_in}
use Rattle.card_daily.specs.Stands.{HaveAccrued, StandFor, before, rows_amid}
use Rattle.card_daily.specs.declared.state.State.{State}
use Rattle.card_daily.specs.declared.track.Track.{Track}

-- the late fee of a cycle, where today is the day after its due date
abbrev pub fee_after : Option IssuedRow → Seen → Book → Option Cycle → Option Fee
fee_after issued seen b None = None
fee_after issued seen b (Some c) = let charged = late_fee issued seen b c in if seen.day == c.due + 1 then charged else None

-- the fee that a day begins with
unfoldable pub fee_due : Given → ℕ → Option Fee
fee_due g day = fee_after (row_in g (day - opened_in g)) (seen_in g day) (before g day) (last_cycle (before g day).cycles)

-- the book of the days before a day, with that fee
abbrev pub charged : Given → ℕ → Book
charged g day = with_fee (account_in g) (seen_in g day) 0 (fee_due g day) (before g day)

-- state and track stand for it
pub record AreCharged (g : Given) (day : ℕ) (s : State) (t : Track) : Type 0 where
  pub stand : StandFor g (rows_amid g day [] (charged g day)) (charged g day) s t
  pub accrued : HaveAccrued g (day - 1) (before g day) s.rates.segments s.accruals.items
