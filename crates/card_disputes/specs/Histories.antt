-- The posts of an account in the calendar.
use Rattle.std.specs.Prelude.{◌≡◌, ◌≤◌, List}
use Rattle.card_events.specs.Billing.{IsCloseDay}
use Rattle.card_events.specs.Range.{last_request_day}
use Rattle.card_events.specs.declared.anchor.Anchor.{Anchor}
use Rattle.card_events.specs.History.{anchor_of}
use Rattle.card_events.specs.declared.kept.Kept.{Kept}
use Rattle.card_posts.specs.Posted.{last_accepted}
use Rattle.card_rates.specs.Segments.{ArePostsDated}

-- the posts of an account with these cycles, whose days, those of acceptance too, are days of requests
pub record AreInCalendar (a : Anchor) (history : List Kept) : Type 0 where
  pub anchor : a ≡ anchor_of history
  pub close_day : IsCloseDay a.close_day
  pub dated : ArePostsDated history
  pub accepted : last_accepted history ≤ last_request_day
