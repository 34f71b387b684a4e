-- Payments counted over the slots of some days.
use Rattle.std.specs.Prelude.{ℕ, Bool, false, ◌&&◌, not, nat_le, if◌then◌else◌, List, Option, Some, None, unsigned_abs}
use Rattle.std.specs.List.{filter, list_any, sum_by}
use Rattle.card_events.specs.History.{CorrectedPost, at_number}
use Rattle.card_events.specs.declared.kept.Kept.{Kept}
use Rattle.card_events.specs.declared.kept.Slot.{Slot}
use Rattle.card_fees.specs.declared.returning.Until.{Until}
use Rattle.card_fees.specs.declared.returning.Until.TheVariants as until
use Rattle.card_model.specs.Payments.{is_before, is_credit, is_payment, returns}
use Rattle.card_model.specs.Refusals.{holds_of}
use Rattle.card_posts.specs.Posted.{slot_with}
use Rattle.card_waits.specs.Waits.{waiting}

-- the slots that stand in front of it
abbrev pub in_front : ℕ → ℕ → List Slot → List Slot
in_front day number slots = filter (λ s. is_before day number s.day s.number) slots

-- the post there is a payment
abbrev pub is_payment_at : Option Kept → Bool
is_payment_at None = false
is_payment_at (Some k) = is_payment k.post

-- the post there is a Return of payment n
abbrev pub returns_at : ℕ → Option Kept → Bool
returns_at n None = false
returns_at n (Some k) = returns n k.post

-- the posts that are read reach behind a day and a number
abbrev pub reaches : Until → ℕ → ℕ → Bool
reaches (until.Day to) d n = nat_le d to
reaches (until.Post day number) d n = is_before day number d n

-- the post with a number is read, and a Return of payment n
abbrev pub returns_until : Until → List Kept → List CorrectedPost → ℕ → ℕ → Bool
returns_until u history posts n w = returns_at n (at_number w history) && holds_of (λ s. reaches u s.day s.number) (slot_with w posts)

-- one of the posts that wait is
abbrev pub is_returned_until : Until → List Kept → List CorrectedPost → ℕ → Bool
is_returned_until u history posts n = list_any (returns_until u history posts n) (waiting history)

-- what a slot counts: the cents of a payment that isn't returned among the posts that are read
abbrev pub counts : Until → List Kept → List CorrectedPost → Slot → ℕ
counts u history posts s =
    if is_payment_at (at_number s.number history) && not (is_returned_until u history posts s.number) then unsigned_abs s.cents else 0

-- the same, where it is read itself
abbrev pub read_counts : Until → List Kept → List CorrectedPost → Slot → ℕ
read_counts u history posts s = if reaches u s.day s.number then counts u history posts s else 0

-- what they count together
abbrev pub slots_sum : Until → List Kept → List CorrectedPost → List Slot → ℕ
slots_sum u history posts slots = sum_by (counts u history posts) slots

-- the post there is a merchant's credit
abbrev pub is_credit_at : Option Kept → Bool
is_credit_at None = false
is_credit_at (Some k) = is_credit k.post

-- what a slot counts among credits
abbrev pub credits : List Kept → Slot → ℕ
credits history s = if is_credit_at (at_number s.number history) then unsigned_abs s.cents else 0

-- the slots from a day on
abbrev pub since : ℕ → List Slot → List Slot
since from slots = filter (λ s. nat_le from s.day) slots

-- the slots up to a day
abbrev pub up_to : ℕ → List Slot → List Slot
up_to to slots = filter (λ s. nat_le s.day to) slots
