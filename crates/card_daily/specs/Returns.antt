-- What the return of a payment reads (12 CFR 1026.52(b)(1)(ii)).
use Rattle.std.specs.Prelude.{ℕ, ◌-◌, ◌≡◌, ◌≤◌, ◌++◌, List, [], ◌∷◌, Option, Some, None}
use Rattle.std.specs.List.{All}
use Rattle.card_events.specs.Range.{last_request_day}
use Rattle.card_events.specs.History.{anchor_of, corrected}
use Rattle.card_model.specs.Books.{Book}
use Rattle.card_model.specs.CycleDays.{HasItsDays}
use Rattle.card_model.specs.Cycles.{Cycle, post_at}
use Rattle.card_model.specs.Effects.{meant_for, payment_at, returned_fee}
use Rattle.card_model.specs.declared.fee.Fee.{Fee}
use Rattle.card_daily.specs.Given.{Given, opened_in, row_in, seen_in}

-- a cycle with its number and days, due by a day
pub record IsDueBy (g : Given) (day : ℕ) (c : Cycle) : Type 0 where
  pub days : HasItsDays (anchor_of g.history) c.number c
  pub first : 1 ≤ c.number
  pub due : c.due ≤ day

-- closed cycles that are due by a day, which is at most 2099-12-31
pub record AreDueOn (g : Given) (day : ℕ) (cycles : List Cycle) : Type 0 where
  pub due : All (IsDueBy g day) cycles
  pub last : day ≤ last_request_day

-- the fee for the return of a payment on a day, in a book
abbrev pub fee_of : Given → ℕ → ℕ → Book → Option Fee
fee_of g day payment b = returned_fee (row_in g (day - opened_in g)) (seen_in g day) b (meant_for b.cycles (payment_at payment (seen_in g day).posts))

-- the fold of a day sees the post with a number, and it is a payment
abbrev pub SeesPayment : Given → ℕ → ℕ → Type 0
SeesPayment g day n = payment_at n (seen_in g day).posts ≡ post_at n (corrected (anchor_of g.history) g.shared.holidays g.history)

-- the fees with one more, where there is one
abbrev pub fees_with : Option Fee → List Fee → List Fee
fees_with None fees = fees
fees_with (Some f) fees = fees ++ f ∷ []
