-- The JSON texts of replies.
use Rattle.std.specs.Prelude.{ℕ, List, [], ◌++◌, Option, None, Some, codes, decimal}
use Rattle.std.specs.Fmt.{signed_decimal}
use Rattle.card_events.specs.Civil.{day_text}
use Rattle.card_events.specs.Refusals.{refusal_number}
use Rattle.card_events.specs.declared.reply.Refusal.{Refusal}
use Rattle.card_lines.specs.Replies.{refusal_name, refusal_value}
use Rattle.card_lines.specs.declared.refusal.RefusalValue.{RefusalValue}
use Rattle.card_lines.specs.declared.refusal.RefusalValue.TheVariants as value
use Rattle.serde_json.specs.Data.{string}
use Rattle.serde_json.specs.Written.{compact_text}

-- the number of the post, 0 for a shared request
unfoldable pub ok_text : ℕ → List ℕ
ok_text n = codes "{\"ok\":" ++ decimal n ++ codes "}"

-- a day in quotes, numbers and cents in decimal
unfoldable pub value_json : RefusalValue → List ℕ
value_json (value.Number n) = decimal n
value_json (value.Cents cents) = signed_decimal cents
value_json (value.Day day) = codes "\"" ++ day_text day ++ codes "\""

-- the member of a value, where there is one
abbrev pub value_member : Option RefusalValue → List ℕ
value_member None = []
value_member (Some v) = codes ",\"value\":" ++ value_json v

-- name, number and value of a refusal
unfoldable pub refused_text : Refusal → List ℕ
refused_text r = codes "{\"name\":\"" ++ refusal_name r ++ codes "\",\"no\":" ++ decimal (refusal_number r) ++ value_member (refusal_value r) ++ codes "}"

-- the member that makes a body no request
unfoldable pub member_text : List ℕ → List ℕ
member_text name = codes "{\"field\":" ++ compact_text (string name) ++ codes "}"
