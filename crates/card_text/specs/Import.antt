-- What records say. Columns 1 to 8 are account, key, kind, day, place, cents, minute and channel.
use Rattle.std.specs.Prelude.{ℕ, ◌+◌, ◌==◌, if◌then◌else◌, List, [], ◌∷◌, Option, Some, None, Result, Ok, Err, codes}
use Rattle.card_events.specs.declared.post.Post.{Post}
use Rattle.card_events.specs.declared.post.Post.TheVariants as post
use Rattle.card_events.specs.declared.request.Request.{Request}
use Rattle.card_events.specs.declared.request.Request.TheVariants as request
use Rattle.card_lines.specs.Fields.{◌>>=◌}
use Rattle.card_lines.specs.Forms.{name_of, number_of, day_of, place_of, channel_of}
use Rattle.csv.specs.Reading.{default_config, records, strip_bom}
use Rattle.card_text.specs.declared.item.Item.{Item}
use Rattle.card_text.specs.declared.item.Item.TheVariants as item
use Rattle.card_text.specs.declared.kind.RecordKind.{RecordKind}
use Rattle.card_text.specs.declared.kind.RecordKind.TheVariants as kind
use Rattle.card_text.specs.declared.post.Movement.{Movement}
use Rattle.card_text.specs.Columns.{column, exactly, no_column}
use Rattle.card_text.specs.Kinds.{kind_of}

-- the names of the columns, which are the fields of a good header
abbrev pub header : List (List ℕ)
header = codes "account" ∷ codes "key" ∷ codes "kind" ∷ codes "day" ∷ codes "place" ∷ codes "cents" ∷ codes "minute" ∷ codes "channel" ∷ []

-- from this column on, the fields are these texts and no others
unfoldable pub exactly_all : List (List ℕ) → ℕ → List (List ℕ) → Result (Unit {0}) ℕ
exactly_all [] n fs = no_column n fs
exactly_all (text ∷ texts) n fs = do
  _ ← column (exactly text) n fs
  exactly_all texts (n + 1) fs

-- the header, or the first column that isn't as there
unfoldable pub header_of : List (List ℕ) → Result (Unit {0}) ℕ
header_of fs = exactly_all header 1 fs

-- a charge and a merchant's credit have a place, and neither minute nor channel
unfoldable pub movement_of : List (List ℕ) → Result Movement ℕ
movement_of fs = do
  day ← column day_of 4 fs
  place ← column place_of 5 fs
  cents ← column number_of 6 fs
  _ ← column (exactly []) 7 fs
  _ ← column (exactly []) 8 fs
  Ok (record { day = day; place = place; cents = cents })

-- a payment has minute and channel, and no place
unfoldable pub payment_of : List (List ℕ) → Result Post ℕ
payment_of fs = do
  day ← column day_of 4 fs
  _ ← column (exactly []) 5 fs
  cents ← column number_of 6 fs
  minute ← column number_of 7 fs
  channel ← column channel_of 8 fs
  Ok (post.Payment day minute channel cents)

-- the post of this kind
unfoldable pub post_of : RecordKind → List (List ℕ) → Result Post ℕ
post_of kind.Charge fs = do
  moved ← movement_of fs
  Ok (post.Charge moved.day moved.place moved.cents)
post_of kind.Credit fs = do
  moved ← movement_of fs
  Ok (post.Credit moved.day moved.place moved.cents)
post_of kind.Payment fs = payment_of fs

-- the request of a record, or the first column that is bad
unfoldable pub request_of : List (List ℕ) → Result Request ℕ
request_of fs = do
  account ← column name_of 1 fs
  key ← column name_of 2 fs
  kind ← column kind_of 3 fs
  post ← post_of kind fs
  _ ← no_column 9 fs
  Ok (request.Post account key post)

-- the item of the record that has this number
abbrev pub numbered : ℕ → Result Request ℕ → Item
numbered row (Ok r) = item.Request r
numbered row (Err field) = item.Bad row field

-- the header itself is no item
abbrev pub header_item : Result (Unit {0}) ℕ → Option Item
header_item (Ok _) = None
header_item (Err field) = Some (item.Bad 1 field)

-- what the record says that has this number: the first is the header
unfoldable pub item_of_record : ℕ → List (List ℕ) → Option Item
item_of_record row fs = if row == 1 then header_item (header_of fs) else Some (numbered row (request_of fs))

-- an item before others, where there is one
abbrev pub before : Option Item → List Item → List Item
before None items = items
before (Some x) items = x ∷ items

-- the items of records, the first of which has this number
unfoldable pub items_of : ℕ → List (List (List ℕ)) → List Item
items_of row [] = []
items_of row (r ∷ rs) = before (item_of_record row r) (items_of (row + 1) rs)

-- the items of the records of some bytes
abbrev pub items_of_bytes : List ℕ → List Item
items_of_bytes bs = items_of 1 (records default_config (strip_bom bs))
