-- Business days, and the day on which a payment is credited. Holidays are a list of days.
use Rattle.std.specs.Prelude.{◌≡◌, ℕ, zero, suc, ◌+◌, ◌-◌, ◌%◌, ◌≤◌, Bool, true, false, not, ◌&&◌, ◌||◌, ◌==◌, nat_lt, if◌then◌else◌, List, [], ◌∷◌, Option, Some, None}
use Rattle.card_events.specs.Range.{last_calendar_day, last_request_day}
use Rattle.card_events.specs.declared.anchor.Anchor.{Anchor}
use Rattle.card_events.specs.declared.anchor.Channel.{Channel}
use Rattle.card_events.specs.declared.anchor.Channel.TheVariants.{Mail, Online}
use Rattle.card_events.specs.Civil.{day_of_month, first_day}
use Rattle.card_events.specs.Billing.{IsCloseDay, closing, due_day_of_month, due}

-- the day is one of these
unfoldable pub is_holiday : List ℕ → ℕ → Bool
is_holiday [] day = false
is_holiday (x ∷ rest) day = (day == x) || is_holiday rest day

-- Monday to Friday; day 0 was a Thursday
abbrev pub is_weekday : ℕ → Bool
is_weekday day = nat_lt ((day + 3) % 7) 5

-- Monday to Friday, and no holiday
unfoldable pub is_business : List ℕ → ℕ → Bool
is_business holidays day = is_weekday day && not (is_holiday holidays day)

-- the first business day after a day; one is met long before the last day, since holidays end with 2099
unfoldable pub next_business : List ℕ → ℕ → ℕ
next_business holidays day = first_day (is_business holidays) (last_calendar_day - day) (day + 1)

-- the due date of some cycle: the due day of a month, after the first closing
unfoldable pub is_due : Anchor → ℕ → Bool
is_due a day = (day_of_month day == due_day_of_month a.close_day) && nat_lt (closing a 1) day

-- going back so many days over days that aren't business days, the first due date met
unfoldable pub due_before : Anchor → List ℕ → ℕ → ℕ → Option ℕ
due_before a holidays zero day = None
due_before a holidays (suc more) day =
    let earlier = due_before a holidays more (day - 1) in
    let found = if is_due a day then Some day else earlier in
    if is_business holidays day then None else found

-- the due date that mail received on a day still meets, or else the day: where that day is the first business day after
-- a due date that wasn't one, the greatest such due date
unfoldable pub mail_day : Anchor → List ℕ → ℕ → ℕ
mail_day a holidays receipt =
    let met = due_before a holidays (receipt - a.opened) (receipt - 1) in
    if is_business holidays receipt then (elim met [ Some day ↦ day | None ↦ receipt ]) else receipt

-- the last minute of the day at which a payment still counts as received on it: 17:00
abbrev pub cutoff : ℕ
cutoff = 1020

-- the last minute of a day, 23:59
abbrev pub last_minute : ℕ
last_minute = 1439

-- a day on which an account may receive a payment: none before its opening, and a day of requests. Its closing day is one
-- that every month has
pub record MayReceiveOn (a : Anchor) (receipt : ℕ) : Type 0 where
  pub close_day : IsCloseDay a.close_day
  pub opened : a.opened ≤ receipt
  pub last : receipt ≤ last_request_day

-- the day as of which a payment is credited: the next day after the cut-off; the due date that mail still meets; the day of receipt
unfoldable pub credit_day : Anchor → List ℕ → ℕ → ℕ → Bool → ℕ
credit_day a holidays receipt minute by_mail =
    let mailed = mail_day a holidays receipt in
    let timely = if by_mail then mailed else receipt in
    if nat_lt cutoff minute then receipt + 1 else timely

-- it came by mail
abbrev pub is_mail : Channel → Bool
is_mail Mail = true
is_mail Online = false

-- the holidays with one more, in order and each once
unfoldable pub with_holiday : ℕ → List ℕ → List ℕ
with_holiday day [] = day ∷ []
with_holiday day (x ∷ rest) =
    let later = x ∷ with_holiday day rest in
    let same = if day == x then x ∷ rest else later in
    if nat_lt day x then day ∷ x ∷ rest else same

-- the same holidays up to a day
abbrev pub AgreeUpTo : ℕ → List ℕ → List ℕ → Type 0
AgreeUpTo last these those = (x : ℕ) → x ≤ last → is_holiday these x ≡ is_holiday those x

-- mail received on a day still meets a due date: that was no business day, and this is the first one after it
pub record IsMet (holidays : List ℕ) (receipt due : ℕ) : Type 0 where
  pub closed : is_business holidays due ≡ false
  pub first : next_business holidays due ≡ receipt

-- the day is the greatest due date of the account that mail received on a day still meets
pub record IsGreatestMet (a : Anchor) (holidays : List ℕ) (receipt day : ℕ) : Type 0 where
  pub cycle : ℕ
  pub numbered : 1 ≤ cycle
  pub is : due a cycle ≡ day
  pub met : IsMet holidays receipt day
  pub greatest : (k : ℕ) → 1 ≤ k → IsMet holidays receipt (due a k) → due a k ≤ day
