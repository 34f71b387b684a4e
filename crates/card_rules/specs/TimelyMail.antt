-- Mail of the next business day is in time for a due date that was none (12 CFR 1026.10(d)(1)), for all lists of posts. Days are day
-- numbers; a minute is one of the day.
use Rattle.std.specs.Prelude.{ℕ, ◌≡◌, ◌≤◌, ◌<◌, List}
use Rattle.std.specs.List.{Contains}
use Rattle.card_events.specs.Billing.{due}
use Rattle.card_events.specs.Business.{IsMet, cutoff}
use Rattle.card_events.specs.History.{CorrectedPost, amended_day, anchor_of, corrected, last_amend}
use Rattle.card_events.specs.Kept.{AreHolidays}
use Rattle.card_events.specs.Range.{last_request_day}
use Rattle.card_events.specs.declared.anchor.Anchor.{Anchor}
use Rattle.card_events.specs.declared.anchor.Channel.TheVariants as channel
use Rattle.card_events.specs.declared.kept.Kept.{Kept}
use Rattle.card_events.specs.declared.post.Post.TheVariants as post
use Rattle.card_model.specs.CycleDays.{IsOpening}

-- the k-th due date was no business day, the day of receipt is the first business day after it, and no later due date lies before it
pub record IsNextBusinessDay (a : Anchor) (holidays : List ℕ) (receipt k : ℕ) : Type 0 where
  pub numbered : 1 ≤ k
  pub met : IsMet holidays receipt (due a k)
  pub last : (j : ℕ) → 1 ≤ j → due a j < receipt → due a j ≤ due a k

-- a payment by mail that is received then by 17:00, as it was corrected, is credited as of that due date
abbrev pub MailOfTheNextBusinessDayIsTimely : Type 0
MailOfTheNextBusinessDayIsTimely =
    (history : List Kept) (holidays : List ℕ) (p : CorrectedPost) (day minute cents k : ℕ) → IsOpening (anchor_of history) → AreHolidays 0 holidays
    → Contains (corrected (anchor_of history) holidays history) p → p.post ≡ post.Payment day minute channel.Mail cents → minute ≤ cutoff
    → (anchor_of history).opened ≤ amended_day (last_amend p.number history) day → amended_day (last_amend p.number history) day ≤ last_request_day
    → IsNextBusinessDay (anchor_of history) holidays (amended_day (last_amend p.number history) day) k → p.day ≡ due (anchor_of history) k
