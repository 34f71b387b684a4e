-- How the lists of a sheet are kept in words of 64 bits: how many lines each list has, and then the lines, one behind the other.
use Rattle.std.specs.Prelude.{ℕ, ◌+◌, ◌*◌, ◌/◌, ◌%◌, ◌^◌, ◌<◌, ◌≤◌, ◌==◌, if◌then◌else◌, min, max, List, [], ◌∷◌, ◌++◌, length, drop, get_or, zero, suc, FitsSigned, flat_map}
use Rattle.std.specs.Int.{w64, cast_signed, cast_unsigned}
use Rattle.card_events.specs.Range.{first_calendar_day, last_calendar_day}
use Rattle.card_events.specs.Money.{rate_limit}
use Rattle.card_model.specs.Cycles.{Amounts}
use Rattle.card_model.specs.declared.entry.EntryKind.{EntryKind}
use Rattle.card_model.specs.declared.entry.EntryKind.TheVariants as kind
use Rattle.card_model.specs.declared.lines.DeferredLine.{DeferredLine}
use Rattle.card_model.specs.declared.lines.Move.{Move}
use Rattle.card_model.specs.declared.lines.RateLine.{RateLine}
use Rattle.card_model.specs.declared.segment.Sort.{Sort}
use Rattle.card_model.specs.declared.segment.Sort.TheVariants as sort

-- ---- the words of a line

-- the number of a kind
abbrev pub kind_code : EntryKind → ℕ
kind_code kind.Charge = 0
kind_code kind.Credit = 1
kind_code kind.Payment = 2
kind_code kind.Return = 3
kind_code kind.Refund = 4
kind_code kind.Fee = 5
kind_code kind.Interest = 6
kind_code kind.Hold = 7

-- the number of a sort
abbrev pub sort_code : Sort → ℕ
sort_code sort.Credit = 0
sort_code sort.Held = 1
sort_code sort.Purchase = 2
sort_code sort.Cash = 3
sort_code sort.Transfer = 4
sort_code sort.Promo = 5
sort_code sort.Deferred = 6

-- a wide number, its lower half first
unfoldable pub wide_words : ℕ → List ℕ
wide_words n = (n % 2 ^ 64) ∷ (n / 2 ^ 64) ∷ []

-- the post, the day and the kind in one word, and the cents
unfoldable pub move_words : Move → List ℕ
move_words m = ((m.post * 65_536 + m.day) * 8 + kind_code m.kind) ∷ cast_unsigned w64 m.cents ∷ []

-- the rate, the sort and the segment in one word, and the two sums
unfoldable pub rate_words : RateLine → List ℕ
rate_words l = ((l.rate * 8 + sort_code l.sort) * 256 + l.segment) ∷ (wide_words l.average ++ wide_words l.interest)

-- the end and the segment in one word, and the two sums
unfoldable pub deferred_words : DeferredLine → List ℕ
deferred_words l = (l.ends * 256 + l.segment) ∷ cast_unsigned w64 l.balance ∷ cast_unsigned w64 l.accrued ∷ []

-- the segment, and the cents
unfoldable pub amount_words : ℕ × ℕ → List ℕ
amount_words x = x.0 ∷ x.1 ∷ []

-- ---- what a line may hold, by the types of its fields

pub record IsMove (m : Move) : Type 0 where
  pub post : m.post < 2 ^ 32
  pub day_low : first_calendar_day ≤ m.day
  pub day_high : m.day ≤ last_calendar_day
  pub cents : FitsSigned w64 m.cents

pub record IsRate (l : RateLine) : Type 0 where
  pub segment : l.segment < 2 ^ 8
  pub rate : l.rate ≤ rate_limit
  pub average : l.average < 2 ^ 128
  pub interest : l.interest < 2 ^ 128

pub record IsDeferred (l : DeferredLine) : Type 0 where
  pub segment : l.segment < 2 ^ 8
  pub balance : FitsSigned w64 l.balance
  pub accrued : FitsSigned w64 l.accrued
  pub ends_low : first_calendar_day ≤ l.ends
  pub ends_high : l.ends ≤ last_calendar_day

pub record IsAmount (x : ℕ × ℕ) : Type 0 where
  pub segment : x.0 < 2 ^ 8

-- ---- reading

-- the kind with a number
abbrev pub kind_of : ℕ → EntryKind
kind_of n =
    if n == 0 then kind.Charge
    else if n == 1 then kind.Credit
    else if n == 2 then kind.Payment
    else if n == 3 then kind.Return
    else if n == 4 then kind.Refund
    else if n == 5 then kind.Fee
    else if n == 6 then kind.Interest
    else kind.Hold

-- the sort with a number
abbrev pub sort_of : ℕ → Sort
sort_of n =
    if n == 0 then sort.Credit
    else if n == 1 then sort.Held
    else if n == 2 then sort.Purchase
    else if n == 3 then sort.Cash
    else if n == 4 then sort.Transfer
    else if n == 5 then sort.Promo
    else sort.Deferred

-- the nearest day of the calendar
abbrev pub day_of : ℕ → ℕ
day_of n = max first_calendar_day (min n last_calendar_day)

-- the nearest rate
abbrev pub rate_of : ℕ → ℕ
rate_of n = min n rate_limit

-- the word at a place, 0 behind the last one
abbrev pub word : List ℕ → ℕ → ℕ
word words i = get_or words i 0

-- the wide number of the two words at a place
abbrev pub wide_at : List ℕ → ℕ → ℕ
wide_at words i = word words (i + 1) * 2 ^ 64 + word words i

-- the line that the next words make up
unfoldable pub move_in : List ℕ → Move
move_in words =
    record {
      day = day_of (word words 0 / 8 % 65_536);
      kind = kind_of (word words 0 % 8);
      post = word words 0 / 8 / 65_536 % 2 ^ 32;
      cents = cast_signed w64 (word words 1);
    }

unfoldable pub rate_in : List ℕ → RateLine
rate_in words =
    record {
      segment = word words 0 % 256;
      sort = sort_of (word words 0 / 256 % 8);
      rate = rate_of (word words 0 / 256 / 8);
      average = wide_at words 1;
      interest = wide_at words 3;
    }

unfoldable pub deferred_in : List ℕ → DeferredLine
deferred_in words =
    record {
      segment = word words 0 % 256;
      balance = cast_signed w64 (word words 1);
      accrued = cast_signed w64 (word words 2);
      ends = day_of (word words 0 / 256);
    }

unfoldable pub amount_in : List ℕ → ℕ × ℕ
amount_in words = (word words 0 % 256, word words 1)

-- so many lines of so many words each
unfoldable pub lines_in : {A : Type 0} → (List ℕ → A) → ℕ → ℕ → List ℕ → List A
lines_in line size zero words = []
lines_in line size (suc n) words = line words ∷ lines_in line size n (drop size words)

-- the words behind them
unfoldable pub behind : ℕ → ℕ → List ℕ → List ℕ
behind size zero words = words
behind size (suc n) words = behind size n (drop size words)

-- ---- the lists of a sheet

-- how many lines each list has, and then the lines, one list behind the other
unfoldable pub lists_words : List Move → List RateLine → List DeferredLine → Amounts → List ℕ
lists_words moves rates deferred closing =
    length moves ∷ length rates ∷ length deferred ∷ length closing ∷ (flat_map move_words moves ++ (flat_map rate_words rates ++ (flat_map deferred_words deferred ++ flat_map amount_words closing)))

-- the words from the first line of each list on
abbrev pub from_moves : List ℕ → List ℕ
from_moves words = drop 4 words

abbrev pub from_rates : List ℕ → List ℕ
from_rates words = behind 2 (word words 0) (from_moves words)

abbrev pub from_deferred : List ℕ → List ℕ
from_deferred words = behind 5 (word words 1) (from_rates words)

abbrev pub from_closing : List ℕ → List ℕ
from_closing words = behind 3 (word words 2) (from_deferred words)

-- the lists that words make up
unfoldable pub moves_in : List ℕ → List Move
moves_in words = lines_in move_in 2 (word words 0) (from_moves words)

unfoldable pub rates_in : List ℕ → List RateLine
rates_in words = lines_in rate_in 5 (word words 1) (from_rates words)

unfoldable pub deferreds_in : List ℕ → List DeferredLine
deferreds_in words = lines_in deferred_in 3 (word words 2) (from_deferred words)

unfoldable pub closing_in : List ℕ → Amounts
closing_in words = lines_in amount_in 2 (word words 3) (from_closing words)
