-- The last day for a dispute of a charge (12 CFR 1026.13(b)(1)), for all lists of requests. Days are day numbers.
use Rattle.std.specs.Prelude.{ℕ, ◌+◌, ◌≡◌, ◌≤◌, Bool, ◌&&◌, nat_le, nat_lt, List}
use Rattle.std.specs.List.{All, Contains, find}
use Rattle.std.specs.Option.{option_map}
use Rattle.card_events.specs.Billing.{closing}
use Rattle.card_events.specs.History.{CorrectedPost, anchor_of, corrected}
use Rattle.card_events.specs.Range.{last_calendar_day}
use Rattle.card_events.specs.declared.anchor.Anchor.{Anchor}
use Rattle.card_events.specs.declared.post.Place.{Place}
use Rattle.card_events.specs.declared.post.Post.TheVariants as post
use Rattle.card_events.specs.declared.request.Request.{Request}
use Rattle.card_model.specs.CycleDays.{IsOpening}
use Rattle.card_model.specs.Cycles.{IssuedRow}
use Rattle.card_model.specs.Deadlines.{last_notice_day}
use Rattle.card_model.specs.Machine.{NamedAccount, run}
use Rattle.card_model.specs.Refusals.{Lists}

-- an issued statement shows a charge: it was issued after the charge was entered, and its cycle closed on the day of the charge or later
abbrev pub shows : Anchor → CorrectedPost → IssuedRow → Bool
shows a charge r = nat_lt charge.number r.bill && nat_le charge.day (closing a r.cycle)

-- The last day for a dispute of a charge is 60 days after the first statement that shows it was issued, and there is none while none does;
-- whatever the holidays are, for a charge whose corrected day lies in the calendar
abbrev pub HasItsDisputeDays : Lists → Type 0
HasItsDisputeDays lists =
    (holidays : List ℕ) (charge : CorrectedPost) (day cents : ℕ) (place : Place) → IsOpening (anchor_of lists.posts)
    → Contains (corrected (anchor_of lists.posts) holidays lists.posts) charge → charge.post ≡ post.Charge day place cents
    → (anchor_of lists.posts).opened ≤ charge.day → charge.day ≤ last_calendar_day
    → last_notice_day (anchor_of lists.posts) (corrected (anchor_of lists.posts) holidays lists.posts) charge.number
    ≡ option_map (λ r. r.day + 60) (find (shows (anchor_of lists.posts) charge) lists.issued)

-- so it is in every account, after every list of requests
abbrev pub DisputesEndInSixtyDays : Type 0
DisputesEndInSixtyDays = (requests : List Request) → All (λ (x : NamedAccount). HasItsDisputeDays x.lists) (run requests).accounts
