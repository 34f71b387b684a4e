-- The fields of requests, by the names of their members.
use Rattle.std.specs.Prelude.{ℕ, Bool, true, false, List, [], ◌∷◌, codes}
use Rattle.card_wire.specs.declared.field.Field.{Field}
use Rattle.card_wire.specs.declared.field.Field.TheVariants as field
use Rattle.card_lines.specs.declared.word.PostKind.{PostKind}
use Rattle.card_lines.specs.declared.word.PostKind.TheVariants as kind
use Rattle.card_lines.specs.declared.word.Word.{Word}
use Rattle.card_lines.specs.declared.word.Word.TheVariants as word

-- the name of a field's member
unfoldable pub field_name : Field → List ℕ
field_name field.Account = codes "account"
field_name field.Key = codes "key"
field_name field.Day = codes "day"
field_name field.Place = codes "place"
field_name field.Category = codes "category"
field_name field.Channel = codes "channel"
field_name field.Plan = codes "plan"
field_name field.End = codes "end"
field_name field.Effective = codes "effective"
field_name field.Finding = codes "finding"
field_name field.Minute = codes "minute"
field_name field.Cents = codes "cents"
field_name field.Rate = codes "rate"
field_name field.After = codes "after"
field_name field.First = codes "first"
field_name field.Repeat = codes "repeat"
field_name field.Target = codes "target"
field_name field.Cycle = codes "cycle"
field_name field.Close = codes "close"
field_name field.Purchase = codes "purchase"
field_name field.Cash = codes "cash"
field_name field.Transfer = codes "transfer"
field_name field.Penalty = codes "penalty"
field_name field.Floor = codes "floor"
field_name field.Pct = codes "pct"

-- a field is a JSON number, or a string
unfoldable pub is_number : Field → Bool
is_number field.Account = false
is_number field.Key = false
is_number field.Day = false
is_number field.Place = false
is_number field.Category = false
is_number field.Channel = false
is_number field.Plan = false
is_number field.End = false
is_number field.Effective = false
is_number field.Finding = false
is_number field.Minute = true
is_number field.Cents = true
is_number field.Rate = true
is_number field.After = true
is_number field.First = true
is_number field.Repeat = true
is_number field.Target = true
is_number field.Cycle = true
is_number field.Close = true
is_number field.Purchase = true
is_number field.Cash = true
is_number field.Transfer = true
is_number field.Penalty = true
is_number field.Floor = true
is_number field.Pct = true

-- the fields of a post, in order
unfoldable pub post_fields : PostKind → List Field
post_fields kind.Open = field.Account ∷ field.Key ∷ field.Day ∷ field.Close ∷ field.Purchase ∷ field.Cash ∷ field.Transfer ∷ field.Penalty ∷ field.Floor ∷ field.Pct ∷ []
post_fields kind.OpenVariable = field.Account ∷ field.Key ∷ field.Day ∷ field.Close ∷ field.Purchase ∷ field.Cash ∷ field.Transfer ∷ field.Penalty ∷ field.Floor ∷ field.Pct ∷ []
post_fields kind.Charge = field.Account ∷ field.Key ∷ field.Day ∷ field.Place ∷ field.Cents ∷ []
post_fields kind.Credit = field.Account ∷ field.Key ∷ field.Day ∷ field.Place ∷ field.Cents ∷ []
post_fields kind.Payment = field.Account ∷ field.Key ∷ field.Day ∷ field.Minute ∷ field.Channel ∷ field.Cents ∷ []
post_fields kind.Return = field.Account ∷ field.Key ∷ field.Day ∷ field.Target ∷ []
post_fields kind.Plan = field.Account ∷ field.Key ∷ field.Day ∷ field.Plan ∷ field.Rate ∷ field.End ∷ field.After ∷ []
post_fields kind.Notice = field.Account ∷ field.Key ∷ field.Day ∷ field.Category ∷ field.Rate ∷ field.Effective ∷ []
post_fields kind.Lower = field.Account ∷ field.Key ∷ field.Day ∷ field.Category ∷ field.Rate ∷ []
post_fields kind.Penalty = field.Account ∷ field.Key ∷ []
post_fields kind.Review = field.Account ∷ field.Key ∷ field.Day ∷ field.Finding ∷ []
post_fields kind.Dispute = field.Account ∷ field.Key ∷ field.Day ∷ field.Target ∷ field.Cents ∷ []
post_fields kind.Ack = field.Account ∷ field.Key ∷ field.Day ∷ field.Target ∷ []
post_fields kind.Resolve = field.Account ∷ field.Key ∷ field.Day ∷ field.Target ∷ field.Cents ∷ []
post_fields kind.AskRefund = field.Account ∷ field.Key ∷ field.Day ∷ []
post_fields kind.Refund = field.Account ∷ field.Key ∷ field.Cents ∷ []
post_fields kind.Amend = field.Account ∷ field.Key ∷ field.Target ∷ field.Day ∷ field.Cents ∷ []
post_fields kind.Bill = field.Account ∷ field.Key ∷ field.Cycle ∷ []

-- the fields behind a word, in order
unfoldable pub fields_of : Word → List Field
fields_of word.Roll = field.Day ∷ []
fields_of word.Holiday = field.Day ∷ []
fields_of word.FeeRow = field.Day ∷ field.First ∷ field.Repeat ∷ []
fields_of word.Index = field.Day ∷ field.Rate ∷ []
fields_of word.Show = []
fields_of (word.Post k) = post_fields k
