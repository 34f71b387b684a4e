-- The forms of fields, as the bytes between two spaces.
use Rattle.std.specs.Prelude.{ℕ, ◌+◌, ◌-◌, ◌*◌, Bool, false, not, ◌&&◌, ◌||◌, nat_lt, ◌==◌, if◌then◌else◌, List, [], ◌∷◌, length, take, drop, slice_index, Option, Some, None, codes}
use Rattle.std.specs.Option.{option_map}
use Rattle.std.specs.Str.{bytes_eq}
use Rattle.std.specs.Char.{is_ascii_digit}
use Rattle.std.specs.List.{list_all}
use Rattle.card_events.specs.Civil.{is_date, day_at}
use Rattle.card_events.specs.declared.anchor.Channel.{Channel}
use Rattle.card_events.specs.declared.anchor.Channel.TheVariants as channel
use Rattle.card_events.specs.Names.{is_name}
use Rattle.card_events.specs.Dated.{is_request_day}
use Rattle.card_events.specs.declared.post.Category.{Category}
use Rattle.card_events.specs.declared.post.Category.TheVariants as category
use Rattle.card_events.specs.declared.post.Place.{Place}
use Rattle.card_events.specs.declared.post.Place.TheVariants as place
use Rattle.card_events.specs.declared.post.PlanKind.{PlanKind}
use Rattle.card_events.specs.declared.post.PlanKind.TheVariants as plan_kind
use Rattle.card_events.specs.declared.post.Finding.{Finding}
use Rattle.card_events.specs.declared.post.Finding.TheVariants as finding

-- a name is its bytes
unfoldable pub name_of : List ℕ → Option (List ℕ)
name_of bs = if is_name bs then Some bs else None

-- the number that digits stand for, after the digits of n
abbrev pub value_after : ℕ → List ℕ → ℕ
value_after n [] = n
value_after n (b ∷ bs) = value_after (10 * n + (b - 48)) bs

-- one to twelve digits, with no leading zero but 0 itself
unfoldable pub is_decimal : List ℕ → Bool
is_decimal [] = false
is_decimal (b ∷ bs) = nat_lt (length bs) 12 && (list_all is_ascii_digit (b ∷ bs) && ((length bs == 0) || not (b == 48)))

-- a decimal number
unfoldable pub number_of : List ℕ → Option ℕ
number_of bs = if is_decimal bs then Some (value_after 0 bs) else None

-- `YYYY-MM-DD`
unfoldable pub is_day_text : List ℕ → Bool
is_day_text bs = (length bs == 10) && ((slice_index bs 4 == 45) && ((slice_index bs 7 == 45)
    && (list_all is_ascii_digit (take 4 bs) && (list_all is_ascii_digit (take 2 (drop 5 bs)) && list_all is_ascii_digit (drop 8 bs)))))

-- the day with this date, where requests may have it
unfoldable pub request_day_at : ℕ → ℕ → ℕ → Option ℕ
request_day_at y m d = if is_date y m d && is_request_day (day_at y m d) then Some (day_at y m d) else None

-- a day that the calendar has, from 2011-01-01 to 2099-12-31
unfoldable pub day_of : List ℕ → Option ℕ
day_of bs =
    if is_day_text bs then request_day_at (value_after 0 (take 4 bs)) (value_after 0 (take 2 (drop 5 bs))) (value_after 0 (drop 8 bs))
    else None

-- a category, by its word
unfoldable pub category_of : List ℕ → Option Category
category_of bs =
    if bytes_eq bs (codes "purchase") then Some category.Purchase
    else if bytes_eq bs (codes "cash") then Some category.Cash
    else if bytes_eq bs (codes "transfer") then Some category.Transfer
    else None

-- the place that is a whole category
abbrev pub place_in : Category → Place
place_in category.Purchase = place.Purchase
place_in category.Cash = place.Cash
place_in category.Transfer = place.Transfer

-- a category, or `plan:` and the number of a plan
unfoldable pub place_of : List ℕ → Option Place
place_of bs =
    if bytes_eq (take 5 bs) (codes "plan:") then option_map place.Plan (number_of (drop 5 bs))
    else option_map place_in (category_of bs)

-- a channel, by its word
unfoldable pub channel_of : List ℕ → Option Channel
channel_of bs =
    if bytes_eq bs (codes "mail") then Some channel.Mail
    else if bytes_eq bs (codes "online") then Some channel.Online
    else None

-- a kind of plan, by its word
unfoldable pub plan_kind_of : List ℕ → Option PlanKind
plan_kind_of bs =
    if bytes_eq bs (codes "promo") then Some plan_kind.Promo
    else if bytes_eq bs (codes "deferred") then Some plan_kind.Deferred
    else None

-- a finding, by its word
unfoldable pub finding_of : List ℕ → Option Finding
finding_of bs =
    if bytes_eq bs (codes "keep") then Some finding.Keep
    else if bytes_eq bs (codes "reduce") then Some finding.Reduce
    else None
