-- A payment is credited as of the day on which it is received (12 CFR 1026.10(a), (b)(2)(ii), (d)), for all lists of posts. Days are day
-- numbers; a minute is one of the day.
use Rattle.std.specs.Prelude.{ℕ, ◌+◌, ◌*◌, ◌≡◌, ◌≤◌, ◌<◌, ◌⊎◌, Bool, true, false, List}
use Rattle.std.specs.List.{Contains}
use Rattle.card_events.specs.Business.{is_business, is_due, is_mail}
use Rattle.card_events.specs.History.{CorrectedPost, amended_day, anchor_of, corrected, last_amend}
use Rattle.card_events.specs.declared.anchor.Anchor.{Anchor}
use Rattle.card_events.specs.declared.anchor.Channel.{Channel}
use Rattle.card_events.specs.declared.kept.Kept.{Kept}
use Rattle.card_events.specs.declared.post.Post.TheVariants as post

-- The exception: the payment is mail, received on the first business day after a due date that was none, and is credited as of it
pub record IsAsOfADueDate (a : Anchor) (holidays : List ℕ) (by_mail : Bool) (receipt credited : ℕ) : Type 0 where
  pub mail : by_mail ≡ true
  pub due : is_due a credited ≡ true
  pub earlier : credited < receipt
  pub closed : (d : ℕ) → credited ≤ d → d < receipt → is_business holidays d ≡ false
  pub business : is_business holidays receipt ≡ true

-- a payment that was received by 17:00, as it was corrected, is credited as of that day; a later one as of the next day
pub record PaymentsAreCreditedOnReceipt : Type 0 where
  pub by_five :
      (history : List Kept) (holidays : List ℕ) (p : CorrectedPost) (by : Channel) (day minute cents : ℕ)
      → Contains (corrected (anchor_of history) holidays history) p → p.post ≡ post.Payment day minute by cents → minute ≤ 17 * 60
      → (p.day ≡ amended_day (last_amend p.number history) day) ⊎ IsAsOfADueDate (anchor_of history) holidays (is_mail by) (amended_day (last_amend p.number history) day) p.day
  pub after_five :
      (history : List Kept) (holidays : List ℕ) (p : CorrectedPost) (by : Channel) (day minute cents : ℕ)
      → Contains (corrected (anchor_of history) holidays history) p → p.post ≡ post.Payment day minute by cents → 17 * 60 < minute
      → p.day ≡ amended_day (last_amend p.number history) day + 1
