-- Reading a kept row from left to right. What is read of a spelling is its request, and what is read is spelled so.
use Rattle.std.specs.Prelude.{◌≡◌, ℕ, ◌+◌, ◌*◌, Bool, ◌&&◌, nat_lt, ◌==◌, ◌||◌, if◌then◌else◌, List, [], ◌∷◌, length, take, drop, fold, Option, Some, None, Result, Ok, Err}
use Rattle.std.specs.Int.{w16, w32, w64, from_be_bytes}
use Rattle.std.specs.Str.{bytes_eq}
use Rattle.card_events.specs.declared.anchor.Channel.{Channel}
use Rattle.card_events.specs.declared.anchor.Channel.TheVariants as channel
use Rattle.card_events.specs.Names.{is_name}
use Rattle.card_events.specs.declared.post.Category.{Category}
use Rattle.card_events.specs.declared.post.Category.TheVariants as category
use Rattle.card_events.specs.declared.post.Finding.{Finding}
use Rattle.card_events.specs.declared.post.Finding.TheVariants as finding
use Rattle.card_events.specs.declared.post.Place.{Place}
use Rattle.card_events.specs.declared.post.Place.TheVariants as place
use Rattle.card_events.specs.declared.post.PlanKind.{PlanKind}
use Rattle.card_events.specs.declared.post.PlanKind.TheVariants as plan_kind
use Rattle.card_events.specs.declared.post.Post.{Post}
use Rattle.card_events.specs.declared.post.Post.TheVariants as post
use Rattle.card_events.specs.declared.post.Terms.{Terms}
use Rattle.card_events.specs.declared.request.Request.{Request}
use Rattle.card_events.specs.declared.request.Request.TheVariants as request
use Rattle.card_events.specs.declared.request.Shared.{Shared}
use Rattle.card_events.specs.declared.request.Shared.TheVariants as shared
use Rattle.card_rows.specs.Held.{is_day, is_number}
use Rattle.card_events.specs.Range.{first_calendar_day}
use Rattle.card_rows.specs.Spelling.{is_code, day_bytes, number_bytes}
use Rattle.card_rows.specs.declared.format.Format.{Format}
use Rattle.card_rows.specs.declared.format.Format.TheVariants as format

-- A reading gives a value and the bytes behind it, or nothing; the second reads where the first left off.
infixl 10 ◌>>=◌
abbrev pub ◌>>=◌ : {A B : Type 0} → Option A → (A → Option B) → Option B
None >>= f = None
(Some x) >>= f = f x

-- a value, and the bytes behind it
abbrev pub before : {A : Type 0} → List ℕ → Option A → Option (A × List ℕ)
before bs None = None
before bs (Some x) = Some (x, bs)

-- the next byte
abbrev pub read_byte : List ℕ → Option (ℕ × List ℕ)
read_byte [] = None
read_byte (b ∷ bs) = Some (b, bs)

-- the first n bytes
unfoldable pub read_piece : ℕ → List ℕ → Option (List ℕ × List ℕ)
read_piece n bs = if nat_lt (length bs) n then None else Some (take n bs, drop n bs)

-- the day with this number, where requests may have it
abbrev pub request_day : ℕ → Option ℕ
request_day n = if is_day n then Some n else None

-- the number, where requests may have it
abbrev pub request_number : ℕ → Option ℕ
request_number n = if is_number n then Some n else None

-- the bytes spell this day, which requests may have
abbrev pub is_day_piece : Format → ℕ → List ℕ → Bool
is_day_piece f day piece = is_day day && bytes_eq (day_bytes f day) piece

-- the day's number, by its bytes
abbrev pub day_number : Format → List ℕ → ℕ
day_number format.First piece = from_be_bytes w32 piece
day_number format.Second piece = from_be_bytes w16 piece + first_calendar_day

-- how many bytes a day has
abbrev pub day_size : Format → ℕ
day_size format.First = 4
day_size format.Second = 2

-- the day that these bytes spell
unfoldable pub day_in : Format → List ℕ → Option ℕ
day_in f piece = if is_day_piece f (day_number f piece) piece then Some (day_number f piece) else None

-- a day, in four bytes or in two
unfoldable pub read_day : Format → List ℕ → Option (ℕ × List ℕ)
read_day f bs = do
  piece ← read_piece (day_size f) bs
  before piece.1 (day_in f piece.0)

-- the bytes spell this number, which requests may have
abbrev pub is_number_piece : Format → ℕ → List ℕ → Bool
is_number_piece f n piece = is_number n && bytes_eq (number_bytes f n) piece

-- the number that eight bytes spell
unfoldable pub number_in : List ℕ → Option ℕ
number_in piece = if is_number_piece format.First (from_be_bytes w64 piece) piece then Some (from_be_bytes w64 piece) else None

-- the value of bytes behind those of a higher worth
abbrev pub value_from : ℕ → List ℕ → ℕ
value_from high bytes = fold (λ h byte. h * 256 + byte) high bytes

-- the value of bytes, the most significant first
abbrev pub value_of : List ℕ → ℕ
value_of bytes = value_from 0 bytes

-- the number that a count and so many bytes spell
unfoldable pub short_number_in : ℕ → List ℕ → Option ℕ
short_number_in count piece = if is_number_piece format.Second (value_of piece) (count ∷ piece) then Some (value_of piece) else None

-- a number, in eight bytes or behind their count in one
unfoldable pub read_number : Format → List ℕ → Option (ℕ × List ℕ)
read_number format.First bs = do
  piece ← read_piece 8 bs
  before piece.1 (number_in piece.0)
read_number format.Second bs = do
  count ← read_byte bs
  piece ← read_piece count.0 count.1
  before piece.1 (short_number_in count.0 piece.0)

-- the name with these bytes
unfoldable pub name_in : List ℕ → Option (List ℕ)
name_in piece = if is_name piece then Some piece else None

-- a name, behind its length in one byte
unfoldable pub read_name : List ℕ → Option (List ℕ × List ℕ)
read_name bs = do
  count ← read_byte bs
  piece ← read_piece count.0 count.1
  before piece.1 (name_in piece.0)

-- the category with this byte
unfoldable pub category_in : ℕ → Option Category
category_in b =
    if b == 0 then Some category.Purchase
    else if b == 1 then Some category.Cash
    else if b == 2 then Some category.Transfer
    else None

-- a category, in one byte
unfoldable pub read_category : List ℕ → Option (Category × List ℕ)
read_category bs = do
  tag ← read_byte bs
  before tag.1 (category_in tag.0)

-- the place that is a whole category, by its byte
unfoldable pub place_in : ℕ → Option Place
place_in b =
    if b == 0 then Some place.Purchase
    else if b == 1 then Some place.Cash
    else if b == 2 then Some place.Transfer
    else None

-- the number of a plan, as a place
unfoldable pub read_plan_place : Format → List ℕ → Option (Place × List ℕ)
read_plan_place f bs = do
  number ← read_number f bs
  Some (place.Plan number.0, number.1)

-- a place, in one byte, and 3 before the number of a plan
unfoldable pub read_place : Format → List ℕ → Option (Place × List ℕ)
read_place f bs = do
  tag ← read_byte bs
  if tag.0 == 3 then read_plan_place f tag.1 else before tag.1 (place_in tag.0)

-- the channel with this byte
unfoldable pub channel_in : ℕ → Option Channel
channel_in b = if b == 0 then Some channel.Mail else if b == 1 then Some channel.Online else None

-- a channel, in one byte
unfoldable pub read_channel : List ℕ → Option (Channel × List ℕ)
read_channel bs = do
  tag ← read_byte bs
  before tag.1 (channel_in tag.0)

-- the kind of plan with this byte
unfoldable pub plan_kind_in : ℕ → Option PlanKind
plan_kind_in b = if b == 0 then Some plan_kind.Promo else if b == 1 then Some plan_kind.Deferred else None

-- a kind of plan, in one byte
unfoldable pub read_plan_kind : List ℕ → Option (PlanKind × List ℕ)
read_plan_kind bs = do
  tag ← read_byte bs
  before tag.1 (plan_kind_in tag.0)

-- the finding with this byte
unfoldable pub finding_in : ℕ → Option Finding
finding_in b = if b == 0 then Some finding.Keep else if b == 1 then Some finding.Reduce else None

-- a finding, in one byte
unfoldable pub read_finding : List ℕ → Option (Finding × List ℕ)
read_finding bs = do
  tag ← read_byte bs
  before tag.1 (finding_in tag.0)

-- closing day, the four rates, floor and percentage
unfoldable pub read_terms : Format → List ℕ → Option (Terms × List ℕ)
read_terms f bs = do
  close ← read_number f bs
  purchase ← read_number f close.1
  cash ← read_number f purchase.1
  transfer ← read_number f cash.1
  penalty ← read_number f transfer.1
  floor ← read_number f penalty.1
  pct ← read_number f floor.1
  Some (record { close = close.0; purchase = purchase.0; cash = cash.0; transfer = transfer.0; penalty = penalty.0; floor = floor.0; pct = pct.0 }, pct.1)

-- day, terms
unfoldable pub read_open : Format → List ℕ → Option (Post × List ℕ)
read_open f bs = do
  day ← read_day f bs
  terms ← read_terms f day.1
  Some (post.Open day.0 terms.0, terms.1)

-- day, terms
unfoldable pub read_open_variable : Format → List ℕ → Option (Post × List ℕ)
read_open_variable f bs = do
  day ← read_day f bs
  terms ← read_terms f day.1
  Some (post.OpenVariable day.0 terms.0, terms.1)

-- day, place, cents
unfoldable pub read_charge : Format → List ℕ → Option (Post × List ℕ)
read_charge f bs = do
  day ← read_day f bs
  place ← read_place f day.1
  cents ← read_number f place.1
  Some (post.Charge day.0 place.0 cents.0, cents.1)

-- day, place, cents
unfoldable pub read_credit : Format → List ℕ → Option (Post × List ℕ)
read_credit f bs = do
  day ← read_day f bs
  place ← read_place f day.1
  cents ← read_number f place.1
  Some (post.Credit day.0 place.0 cents.0, cents.1)

-- day, minute, channel, cents
unfoldable pub read_payment : Format → List ℕ → Option (Post × List ℕ)
read_payment f bs = do
  day ← read_day f bs
  minute ← read_number f day.1
  channel ← read_channel minute.1
  cents ← read_number f channel.1
  Some (post.Payment day.0 minute.0 channel.0 cents.0, cents.1)

-- day, target
unfoldable pub read_return : Format → List ℕ → Option (Post × List ℕ)
read_return f bs = do
  day ← read_day f bs
  target ← read_number f day.1
  Some (post.Return day.0 target.0, target.1)

-- day, kind of plan, rate, end, rate after
unfoldable pub read_plan : Format → List ℕ → Option (Post × List ℕ)
read_plan f bs = do
  day ← read_day f bs
  kind ← read_plan_kind day.1
  rate ← read_number f kind.1
  end ← read_day f rate.1
  after ← read_number f end.1
  Some (post.Plan day.0 kind.0 rate.0 end.0 after.0, after.1)

-- day, category, rate, effective day
unfoldable pub read_notice : Format → List ℕ → Option (Post × List ℕ)
read_notice f bs = do
  day ← read_day f bs
  category ← read_category day.1
  rate ← read_number f category.1
  effective ← read_day f rate.1
  Some (post.Notice day.0 category.0 rate.0 effective.0, effective.1)

-- day, category, rate
unfoldable pub read_lower : Format → List ℕ → Option (Post × List ℕ)
read_lower f bs = do
  day ← read_day f bs
  category ← read_category day.1
  rate ← read_number f category.1
  Some (post.Lower day.0 category.0 rate.0, rate.1)

-- no field
unfoldable pub read_penalty : List ℕ → Option (Post × List ℕ)
read_penalty bs = Some (post.Penalty, bs)

-- day, finding
unfoldable pub read_review : Format → List ℕ → Option (Post × List ℕ)
read_review f bs = do
  day ← read_day f bs
  finding ← read_finding day.1
  Some (post.Review day.0 finding.0, finding.1)

-- day, target, cents
unfoldable pub read_dispute : Format → List ℕ → Option (Post × List ℕ)
read_dispute f bs = do
  day ← read_day f bs
  target ← read_number f day.1
  cents ← read_number f target.1
  Some (post.Dispute day.0 target.0 cents.0, cents.1)

-- day, target
unfoldable pub read_ack : Format → List ℕ → Option (Post × List ℕ)
read_ack f bs = do
  day ← read_day f bs
  target ← read_number f day.1
  Some (post.Ack day.0 target.0, target.1)

-- day, target, cents
unfoldable pub read_resolve : Format → List ℕ → Option (Post × List ℕ)
read_resolve f bs = do
  day ← read_day f bs
  target ← read_number f day.1
  cents ← read_number f target.1
  Some (post.Resolve day.0 target.0 cents.0, cents.1)

-- day
unfoldable pub read_ask_refund : Format → List ℕ → Option (Post × List ℕ)
read_ask_refund f bs = do
  day ← read_day f bs
  Some (post.AskRefund day.0, day.1)

-- cents
unfoldable pub read_refund : Format → List ℕ → Option (Post × List ℕ)
read_refund f bs = do
  cents ← read_number f bs
  Some (post.Refund cents.0, cents.1)

-- target, day, cents
unfoldable pub read_amend : Format → List ℕ → Option (Post × List ℕ)
read_amend f bs = do
  target ← read_number f bs
  day ← read_day f target.1
  cents ← read_number f day.1
  Some (post.Amend target.0 day.0 cents.0, cents.1)

-- cycle
unfoldable pub read_bill : Format → List ℕ → Option (Post × List ℕ)
read_bill f bs = do
  cycle ← read_number f bs
  Some (post.Bill cycle.0, cycle.1)

-- day
unfoldable pub read_roll : Format → List ℕ → Option (Shared × List ℕ)
read_roll f bs = do
  day ← read_day f bs
  Some (shared.Roll day.0, day.1)

-- day
unfoldable pub read_holiday : Format → List ℕ → Option (Shared × List ℕ)
read_holiday f bs = do
  day ← read_day f bs
  Some (shared.Holiday day.0, day.1)

-- day, first, repeat
unfoldable pub read_fee_row : Format → List ℕ → Option (Shared × List ℕ)
read_fee_row f bs = do
  day ← read_day f bs
  first ← read_number f day.1
  repeat ← read_number f first.1
  Some (shared.FeeRow day.0 first.0 repeat.0, repeat.1)

-- day, rate
unfoldable pub read_index : Format → List ℕ → Option (Shared × List ℕ)
read_index f bs = do
  day ← read_day f bs
  rate ← read_number f day.1
  Some (shared.Index day.0 rate.0, rate.1)

-- the post with this code
unfoldable pub read_post : Format → ℕ → List ℕ → Option (Post × List ℕ)
read_post f code bs =
    if code == 4 then read_open f bs
    else if code == 5 then read_charge f bs
    else if code == 6 then read_credit f bs
    else if code == 7 then read_payment f bs
    else if code == 8 then read_return f bs
    else if code == 9 then read_plan f bs
    else if code == 10 then read_notice f bs
    else if code == 11 then read_lower f bs
    else if code == 12 then read_penalty bs
    else if code == 13 then read_review f bs
    else if code == 14 then read_dispute f bs
    else if code == 15 then read_ack f bs
    else if code == 16 then read_resolve f bs
    else if code == 17 then read_ask_refund f bs
    else if code == 18 then read_refund f bs
    else if code == 19 then read_amend f bs
    else if code == 20 then read_bill f bs
    else if code == 22 then read_open_variable f bs
    else None

-- the shared request with this code
unfoldable pub read_shared : Format → ℕ → List ℕ → Option (Shared × List ℕ)
read_shared f code bs =
    if code == 1 then read_roll f bs
    else if code == 2 then read_holiday f bs
    else if code == 3 then read_fee_row f bs
    else if code == 21 then read_index f bs
    else None

-- a shared request, as a request
unfoldable pub read_for_all : Format → ℕ → List ℕ → Option (Request × List ℕ)
read_for_all f code bs = do
  it ← read_shared f code bs
  Some (request.Shared it.0, it.1)

-- a post, its account and its key
unfoldable pub read_posted : Format → ℕ → List ℕ → Option (Request × List ℕ)
read_posted f code bs = do
  account ← read_name bs
  key ← read_name account.1
  it ← read_post f code key.1
  Some (request.Post account.0 key.0 it.0, it.1)

-- a shared request has a code of 1 to 3, or 21
abbrev pub is_shared_code : ℕ → Bool
is_shared_code code = nat_lt code 4 || (code == 21)

-- the request with this code
unfoldable pub read_coded : Format → ℕ → List ℕ → Option (Request × List ℕ)
read_coded f code bs = if is_shared_code code then read_for_all f code bs else read_posted f code bs

-- the format with this byte
unfoldable pub format_in : ℕ → Option Format
format_in b = if b == 1 then Some format.First else if b == 2 then Some format.Second else None

-- a code, which the format has
unfoldable pub code_in : Format → ℕ → Option ℕ
code_in f code = if is_code f code then Some code else None

-- a format, in one byte
unfoldable pub read_format : List ℕ → Option (Format × List ℕ)
read_format bs = do
  tag ← read_byte bs
  before tag.1 (format_in tag.0)

-- a code of the format, in one byte
unfoldable pub read_code : Format → List ℕ → Option (ℕ × List ℕ)
read_code f bs = do
  tag ← read_byte bs
  before tag.1 (code_in f tag.0)

-- a request, and the bytes behind it
unfoldable pub read_request : List ℕ → Option (Request × List ℕ)
read_request bs = do
  it ← read_format bs
  code ← read_code it.0 it.1
  read_coded it.0 code.0 code.1

-- nothing stands behind it
abbrev pub whole : {A : Type 0} → A × List ℕ → Option A
whole (x, []) = Some x
whole (x, b ∷ bs) = None

-- the request that is spelled by all these bytes
unfoldable pub request_in : List ℕ → Option Request
request_in bs = read_request bs >>= whole

-- the code's value and the bytes that it left are what reading gives
abbrev pub GivesSome : {X : Type 0} → Option X → List ℕ → Option (X × List ℕ) → Type 0
GivesSome None rest read = read ≡ None
GivesSome (Some x) rest read = read ≡ Some (x, rest)
