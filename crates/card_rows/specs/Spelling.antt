-- How a request is spelled in a kept row, in each of the two formats.
use Rattle.std.specs.Prelude.{◌≡◌, ℕ, ◌-◌, Bool, true, nat_le, nat_lt, ◌==◌, if◌then◌else◌, List, [], ◌∷◌, ◌++◌, length}
use Rattle.std.specs.Int.{w16, w32, w64, to_be_bytes, bytes_high_first}
use Rattle.card_events.specs.Range.{first_calendar_day}
use Rattle.card_events.specs.declared.anchor.Channel.{Channel}
use Rattle.card_events.specs.declared.anchor.Channel.TheVariants as channel
use Rattle.card_events.specs.declared.post.Category.{Category}
use Rattle.card_events.specs.declared.post.Category.TheVariants as category
use Rattle.card_events.specs.declared.post.Finding.{Finding}
use Rattle.card_events.specs.declared.post.Finding.TheVariants as finding
use Rattle.card_events.specs.declared.post.Place.{Place}
use Rattle.card_events.specs.declared.post.Place.TheVariants as place
use Rattle.card_events.specs.declared.post.PlanKind.{PlanKind}
use Rattle.card_events.specs.declared.post.PlanKind.TheVariants as plan_kind
use Rattle.card_events.specs.declared.post.Post.{Post}
use Rattle.card_events.specs.declared.post.Post.TheVariants as post
use Rattle.card_events.specs.declared.post.Terms.{Terms}
use Rattle.card_events.specs.declared.request.Request.{Request}
use Rattle.card_events.specs.declared.request.Request.TheVariants as request
use Rattle.card_events.specs.declared.request.Shared.{Shared}
use Rattle.card_events.specs.declared.request.Shared.TheVariants as shared
use Rattle.card_rows.specs.Held.{is_request}
use Rattle.card_rows.specs.declared.format.Format.{Format}
use Rattle.card_rows.specs.declared.format.Format.TheVariants as format

-- its byte
abbrev pub format_byte : Format → ℕ
format_byte format.First = 1
format_byte format.Second = 2

-- the first format has the codes up to 20 alone
abbrev pub is_code : Format → ℕ → Bool
is_code format.First code = nat_le code 20
is_code format.Second code = true

-- its length in one byte, and its bytes
unfoldable pub name_bytes : List ℕ → List ℕ
name_bytes name = length name ∷ name

-- the days since 1970-01-01 in four bytes, or those since 2011-01-01 in two, the most significant first
unfoldable pub day_bytes : Format → ℕ → List ℕ
day_bytes format.First day = to_be_bytes w32 day
day_bytes format.Second day = to_be_bytes w16 (day - first_calendar_day)

-- how many bytes a number has without those that are 0 before the others: at most five
unfoldable pub width : ℕ → ℕ
width n =
    if n == 0 then 0
    else if nat_lt n 256 then 1
    else if nat_lt n 65_536 then 2
    else if nat_lt n 16_777_216 then 3
    else if nat_lt n 4_294_967_296 then 4
    else 5

-- eight bytes, or their count and then no more than it has, the most significant first
unfoldable pub number_bytes : Format → ℕ → List ℕ
number_bytes format.First n = to_be_bytes w64 n
number_bytes format.Second n = width n ∷ bytes_high_first (width n) n

-- one byte
unfoldable pub category_bytes : Category → List ℕ
category_bytes category.Purchase = 0 ∷ []
category_bytes category.Cash = 1 ∷ []
category_bytes category.Transfer = 2 ∷ []

-- one byte, and for a plan its number
unfoldable pub place_bytes : Format → Place → List ℕ
place_bytes f place.Purchase = 0 ∷ []
place_bytes f place.Cash = 1 ∷ []
place_bytes f place.Transfer = 2 ∷ []
place_bytes f (place.Plan n) = 3 ∷ number_bytes f n

-- one byte
unfoldable pub channel_bytes : Channel → List ℕ
channel_bytes channel.Mail = 0 ∷ []
channel_bytes channel.Online = 1 ∷ []

-- one byte
unfoldable pub plan_kind_bytes : PlanKind → List ℕ
plan_kind_bytes plan_kind.Promo = 0 ∷ []
plan_kind_bytes plan_kind.Deferred = 1 ∷ []

-- one byte
unfoldable pub finding_bytes : Finding → List ℕ
finding_bytes finding.Keep = 0 ∷ []
finding_bytes finding.Reduce = 1 ∷ []

-- closing day, the four rates, floor and percentage
unfoldable pub terms_bytes : Format → Terms → List ℕ
terms_bytes f t = number_bytes f t.close ++ number_bytes f t.purchase ++ number_bytes f t.cash ++ number_bytes f t.transfer
    ++ number_bytes f t.penalty ++ number_bytes f t.floor ++ number_bytes f t.pct

-- the code of a kind of post
abbrev pub post_code : Post → ℕ
post_code (post.Open day terms) = 4
post_code (post.Charge day place cents) = 5
post_code (post.Credit day place cents) = 6
post_code (post.Payment day minute channel cents) = 7
post_code (post.Return day target) = 8
post_code (post.Plan day kind rate end after) = 9
post_code (post.Notice day category rate effective) = 10
post_code (post.Lower day category rate) = 11
post_code post.Penalty = 12
post_code (post.Review day finding) = 13
post_code (post.Dispute day target cents) = 14
post_code (post.Ack day target) = 15
post_code (post.Resolve day target cents) = 16
post_code (post.AskRefund day) = 17
post_code (post.Refund cents) = 18
post_code (post.Amend target day cents) = 19
post_code (post.Bill cycle) = 20
post_code (post.OpenVariable day terms) = 22

-- the fields of a post
unfoldable pub post_bytes : Format → Post → List ℕ
post_bytes f (post.Open day terms) = day_bytes f day ++ terms_bytes f terms
post_bytes f (post.OpenVariable day terms) = day_bytes f day ++ terms_bytes f terms
post_bytes f (post.Charge day place cents) = day_bytes f day ++ place_bytes f place ++ number_bytes f cents
post_bytes f (post.Credit day place cents) = day_bytes f day ++ place_bytes f place ++ number_bytes f cents
post_bytes f (post.Payment day minute channel cents) = day_bytes f day ++ number_bytes f minute ++ channel_bytes channel ++ number_bytes f cents
post_bytes f (post.Return day target) = day_bytes f day ++ number_bytes f target
post_bytes f (post.Plan day kind rate end after) = day_bytes f day ++ plan_kind_bytes kind ++ number_bytes f rate ++ day_bytes f end ++ number_bytes f after
post_bytes f (post.Notice day category rate effective) = day_bytes f day ++ category_bytes category ++ number_bytes f rate ++ day_bytes f effective
post_bytes f (post.Lower day category rate) = day_bytes f day ++ category_bytes category ++ number_bytes f rate
post_bytes f post.Penalty = []
post_bytes f (post.Review day finding) = day_bytes f day ++ finding_bytes finding
post_bytes f (post.Dispute day target cents) = day_bytes f day ++ number_bytes f target ++ number_bytes f cents
post_bytes f (post.Ack day target) = day_bytes f day ++ number_bytes f target
post_bytes f (post.Resolve day target cents) = day_bytes f day ++ number_bytes f target ++ number_bytes f cents
post_bytes f (post.AskRefund day) = day_bytes f day
post_bytes f (post.Refund cents) = number_bytes f cents
post_bytes f (post.Amend target day cents) = number_bytes f target ++ day_bytes f day ++ number_bytes f cents
post_bytes f (post.Bill cycle) = number_bytes f cycle

-- the code of a shared request
abbrev pub shared_code : Shared → ℕ
shared_code (shared.Roll day) = 1
shared_code (shared.Holiday day) = 2
shared_code (shared.FeeRow day first repeat) = 3
shared_code (shared.Index day rate) = 21

-- the fields of a shared request
unfoldable pub shared_bytes : Format → Shared → List ℕ
shared_bytes f (shared.Roll day) = day_bytes f day
shared_bytes f (shared.Holiday day) = day_bytes f day
shared_bytes f (shared.FeeRow day first repeat) = day_bytes f day ++ number_bytes f first ++ number_bytes f repeat
shared_bytes f (shared.Index day rate) = day_bytes f day ++ number_bytes f rate

-- the code of a request
abbrev pub request_code : Request → ℕ
request_code (request.Shared s) = shared_code s
request_code (request.Post account key p) = post_code p

-- the format, the code of the request, and its fields
unfoldable pub spelling : Format → Request → List ℕ
spelling f (request.Shared s) = format_byte f ∷ shared_code s ∷ shared_bytes f s
spelling f (request.Post account key p) = format_byte f ∷ post_code p ∷ (name_bytes account ++ name_bytes key ++ post_bytes f p)

-- the format has the code of the request: the second has each, and the first those that it had
abbrev pub has_spelling : Format → Request → Bool
has_spelling f r = is_code f (request_code r)

-- the bytes spell a request in a format
pub record IsSpelling (f : Format) (bytes : List ℕ) (r : Request) : Type 0 where
  pub spelled : bytes ≡ spelling f r
  pub held : is_request r ≡ true
  pub known : has_spelling f r ≡ true

-- the bytes spell a request in one of the formats
pub record IsSomeSpelling (bytes : List ℕ) (r : Request) : Type 0 where
  pub format : Format
  pub spells : IsSpelling format bytes r
