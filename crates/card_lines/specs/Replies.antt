-- The texts of replies, each a whole line.
use Rattle.std.specs.Prelude.{ℕ, ℤ, List, [], ◌∷◌, ◌++◌, Option, Some, None, codes}
use Rattle.std.specs.Fmt.{decimal, signed_decimal}
use Rattle.card_events.specs.Civil.{day_text}
use Rattle.card_events.specs.Refusals.{refusal_number}
use Rattle.card_events.specs.declared.reply.Reply.{Reply}
use Rattle.card_events.specs.declared.reply.Reply.TheVariants as reply
use Rattle.card_events.specs.declared.reply.Refusal.{Refusal}
use Rattle.card_events.specs.declared.reply.Refusal.TheVariants as refusal
use Rattle.card_lines.specs.declared.refusal.RefusalValue.{RefusalValue}
use Rattle.card_lines.specs.declared.refusal.RefusalValue.TheVariants as value

-- the name of a refusal
abbrev pub refusal_name : Refusal → List ℕ
refusal_name refusal.UnknownAccount = codes "UnknownAccount"
refusal_name refusal.AccountExists = codes "AccountExists"
refusal_name (refusal.KeyReused number) = codes "KeyReused"
refusal_name (refusal.BadTerms field) = codes "BadTerms"
refusal_name refusal.AmountRange = codes "AmountRange"
refusal_name refusal.DayAhead = codes "DayAhead"
refusal_name refusal.DayBeforeOpen = codes "DayBeforeOpen"
refusal_name refusal.UnknownPlan = codes "UnknownPlan"
refusal_name refusal.OutsidePlan = codes "OutsidePlan"
refusal_name (refusal.PlanEndNotClosing day) = codes "PlanEndNotClosing"
refusal_name refusal.PlanTooShort = codes "PlanTooShort"
refusal_name refusal.SegmentsFull = codes "SegmentsFull"
refusal_name (refusal.WrongEntry number) = codes "WrongEntry"
refusal_name (refusal.AlreadyReturned number) = codes "AlreadyReturned"
refusal_name (refusal.NoticeTooShort day) = codes "NoticeTooShort"
refusal_name (refusal.FirstYear day) = codes "FirstYear"
refusal_name (refusal.NoticePending day) = codes "NoticePending"
refusal_name refusal.NotDelinquent = codes "NotDelinquent"
refusal_name (refusal.DisputeLate day) = codes "DisputeLate"
refusal_name (refusal.DisputeKnown number) = codes "DisputeKnown"
refusal_name refusal.NoOpenDispute = codes "NoOpenDispute"
refusal_name (refusal.NotClosed day) = codes "NotClosed"
refusal_name (refusal.RefundTooLarge cents) = codes "RefundTooLarge"
refusal_name refusal.NothingToReview = codes "NothingToReview"
refusal_name refusal.AccountFull = codes "AccountFull"
refusal_name refusal.LedgerFull = codes "LedgerFull"
refusal_name (refusal.RollBack day) = codes "RollBack"
refusal_name refusal.RollTooFar = codes "RollTooFar"
refusal_name (refusal.PastRow day) = codes "PastRow"
refusal_name refusal.NoIndex = codes "NoIndex"

-- the value of a refusal that has one
abbrev pub refusal_value : Refusal → Option RefusalValue
refusal_value refusal.UnknownAccount = None
refusal_value refusal.AccountExists = None
refusal_value (refusal.KeyReused number) = Some (value.Number number)
refusal_value (refusal.BadTerms field) = Some (value.Number field)
refusal_value refusal.AmountRange = None
refusal_value refusal.DayAhead = None
refusal_value refusal.DayBeforeOpen = None
refusal_value refusal.UnknownPlan = None
refusal_value refusal.OutsidePlan = None
refusal_value (refusal.PlanEndNotClosing day) = Some (value.Day day)
refusal_value refusal.PlanTooShort = None
refusal_value refusal.SegmentsFull = None
refusal_value (refusal.WrongEntry number) = Some (value.Number number)
refusal_value (refusal.AlreadyReturned number) = Some (value.Number number)
refusal_value (refusal.NoticeTooShort day) = Some (value.Day day)
refusal_value (refusal.FirstYear day) = Some (value.Day day)
refusal_value (refusal.NoticePending day) = Some (value.Day day)
refusal_value refusal.NotDelinquent = None
refusal_value (refusal.DisputeLate day) = Some (value.Day day)
refusal_value (refusal.DisputeKnown number) = Some (value.Number number)
refusal_value refusal.NoOpenDispute = None
refusal_value (refusal.NotClosed day) = Some (value.Day day)
refusal_value (refusal.RefundTooLarge cents) = Some (value.Cents cents)
refusal_value refusal.NothingToReview = None
refusal_value refusal.AccountFull = None
refusal_value refusal.LedgerFull = None
refusal_value (refusal.RollBack day) = Some (value.Day day)
refusal_value refusal.RollTooFar = None
refusal_value (refusal.PastRow day) = Some (value.Day day)
refusal_value refusal.NoIndex = None

-- numbers and cents in decimal, days as `YYYY-MM-DD`
abbrev pub value_text : RefusalValue → List ℕ
value_text (value.Number n) = decimal n
value_text (value.Cents cents) = signed_decimal cents
value_text (value.Day day) = day_text day

-- a value stands behind one space
abbrev pub value_part : Option RefusalValue → List ℕ
value_part None = []
value_part (Some v) = 32 ∷ value_text v

-- `no NUMBER NAME`, and the value where there is one
unfoldable pub refusal_text : Refusal → List ℕ
refusal_text r = codes "no " ++ decimal (refusal_number r) ++ 32 ∷ [] ++ refusal_name r ++ value_part (refusal_value r) ++ 10 ∷ []

-- `ok`, `ok NUMBER` or the refusal
unfoldable pub reply_text : Reply → List ℕ
reply_text reply.Done = codes "ok" ++ 10 ∷ []
reply_text (reply.Accepted n) = codes "ok " ++ decimal n ++ 10 ∷ []
reply_text (reply.Refused r) = refusal_text r

-- `bad LINE FIELD`
unfoldable pub bad_text : ℕ → ℕ → List ℕ
bad_text line field = codes "bad " ++ decimal line ++ 32 ∷ [] ++ decimal field ++ 10 ∷ []

-- `owed CENTS credit CENTS held CENTS`
unfoldable pub balances_text : ℤ → ℤ → ℤ → List ℕ
balances_text owed credit held = codes "owed " ++ signed_decimal owed ++ codes " credit " ++ signed_decimal credit ++ codes " held " ++ signed_decimal held

-- `show ACCOUNT DAY owed CENTS credit CENTS held CENTS`
unfoldable pub show_text : List ℕ → ℕ → ℤ → ℤ → ℤ → List ℕ
show_text account day owed credit held = codes "show " ++ account ++ 32 ∷ [] ++ day_text day ++ 32 ∷ [] ++ balances_text owed credit held ++ 10 ∷ []
