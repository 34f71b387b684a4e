-- The day on which a cycle closes, and plans that end with one. Days are day numbers.
use Rattle.std.specs.Prelude.{ℕ, ◌≡◌, ◌≤◌}
use Rattle.card_events.specs.Billing.{IsCloseDay, closing}
use Rattle.card_events.specs.Range.{first_calendar_day}
use Rattle.card_events.specs.declared.anchor.Anchor.{Anchor}
use Rattle.card_events.specs.History.{anchor_of}
use Rattle.card_model.specs.Books.{present_cycle}
use Rattle.card_daily.specs.Given.{Given}
use Rattle.card_daily.specs.Stands.{posted}

-- a cycle closes on a day
pub record IsClosing (a : Anchor) (number day : ℕ) : Type 0 where
  pub close_day : IsCloseDay a.close_day
  pub first : 1 ≤ number
  pub on : closing a number ≡ day
  pub low : first_calendar_day ≤ day
  pub small : number ≤ day

-- the present cycle of an account closes on a day
pub record IsClosingOf (g : Given) (number day : ℕ) : Type 0 where
  pub closing : IsClosing (anchor_of g.history) number day
  pub present : present_cycle (posted g day) ≡ number
