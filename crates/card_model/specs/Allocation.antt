-- Where the next cent of a payment goes (12 CFR 1026.53).
use Rattle.std.specs.Prelude.{ℕ, zero, suc, ◌+◌, ◌-◌, Bool, true, false, ◌&&◌, ◌==◌, nat_lt, if◌then◌else◌, is_some, unwrap_or, List, [], ◌∷◌, ◌≤◌, Option, Some, None}
use Rattle.std.specs.List.{filter_map}
use Rattle.std.specs.Option.{option_or}
use Rattle.card_model.specs.declared.holding.Holding.{Holding}

-- what a payment has reached so far, and the cents that went to Credit
pub record Paying : Type 0 where
  pub left : List Holding
  pub credit : ℕ

-- the later holding where it is before this one, else this one
abbrev pub choose : (Holding → Holding → Bool) → Holding → Option Holding → Holding
choose before h None = h
choose before h (Some g) = if before g h then g else h

-- The first holding above 0 that passes and that no other such one is before. Among equals it is the one with the
-- least number, which stands first
unfoldable pub best : (Holding → Bool) → (Holding → Holding → Bool) → List Holding → Option Holding
best p before [] = None
best p before (h ∷ hs) =
    let later = best p before hs in
    if nat_lt 0 h.balance && p h then Some (choose before h later) else later

-- every holding
abbrev pub all_pass : Holding → Bool
all_pass h = true

-- of a lower rate than the other
abbrev pub lower_rate : Holding → Holding → Bool
lower_rate g h = nat_lt g.rate h.rate

-- of a higher rate than the other
abbrev pub higher_rate : Holding → Holding → Bool
higher_rate g h = nat_lt h.rate g.rate

-- a Deferred in the last two cycles of its period
abbrev pub is_last_two : Holding → Bool
is_last_two h = is_some h.last_two

-- of a period that ends sooner than the other's
abbrev pub sooner_end : Holding → Holding → Bool
sooner_end g h = nat_lt (unwrap_or g.last_two 0) (unwrap_or h.last_two 0)

-- before no other
abbrev pub never : Holding → Holding → Bool
never g h = false

-- ---- the rules
-- a cent of the minimum payment goes to the least rate
abbrev pub minimum_rule : List Holding → Option Holding
minimum_rule hs = best all_pass lower_rate hs

-- one above it goes to the greatest rate (12 CFR 1026.53(a))
abbrev pub rate_rule : List Holding → Option Holding
rate_rule hs = best all_pass higher_rate hs

-- but before to a Deferred in the last two cycles of its period, the soonest end first (12 CFR 1026.53(b)(1)(i))
abbrev pub excess_rule : List Holding → Option Holding
excess_rule hs = option_or (best is_last_two sooner_end hs) (rate_rule hs)

-- one of a merchant's credit goes to its place first, the oldest segment before others
abbrev pub place_rule : List Holding → Option Holding
place_rule hs = option_or (best (λ h. h.of_place) never hs) (excess_rule hs)

-- ---- an amount, one cent at a time
-- n cents paid on a holding, and on the one of a list
abbrev pub paid_on : ℕ → Holding → Holding
paid_on n h = record { id = h.id; balance = h.balance - n; rate = h.rate; last_two = h.last_two; of_place = h.of_place; paid = h.paid + n }

-- n cents paid on the holding of a number
unfoldable pub paid_at : ℕ → ℕ → List Holding → List Holding
paid_at id n [] = []
paid_at id n (h ∷ hs) = (if h.id == id then paid_on n h else h) ∷ paid_at id n hs

-- n cents to a holding; without one they go to Credit
abbrev pub takes : ℕ → Paying → Option Holding → Paying
takes n s None = record { left = s.left; credit = s.credit + n }
takes n s (Some h) = record { left = paid_at h.id n s.left; credit = s.credit }

-- an amount paid by a rule, cent by cent
unfoldable pub pay : (List Holding → Option Holding) → ℕ → Paying → Paying
pay rule zero s = s
pay rule (suc n) s = pay rule n (takes 1 s (rule s.left))

-- before the first cent
abbrev pub untouched : List Holding → Paying
untouched hs = record { left = hs; credit = 0 }

-- what a holding was paid, none where that is 0
abbrev pub part_of : Holding → Option (ℕ × ℕ)
part_of h = if h.paid == 0 then None else Some (h.id, h.paid)

-- the parts by segment: that of Credit first, then the others, ascending
abbrev pub parts : Paying → List (ℕ × ℕ)
parts s = if s.credit == 0 then filter_map part_of s.left else (0, s.credit) ∷ filter_map part_of s.left

-- the parts of a payment: first the minimum part is paid, then the rest
abbrev pub allocated : ℕ → ℕ → List Holding → List (ℕ × ℕ)
allocated minimum amount hs = parts (pay excess_rule (amount - minimum) (pay minimum_rule minimum (untouched hs)))

-- the parts of a merchant's credit
abbrev pub placed : ℕ → List Holding → List (ℕ × ℕ)
placed amount hs = parts (pay place_rule amount (untouched hs))

-- the numbers of the holdings ascend from one on
abbrev pub Ascends : ℕ → List Holding → Type 0
Ascends low [] = Unit {0}
Ascends low (h ∷ hs) = (low ≤ h.id) × Ascends (h.id + 1) hs
