-- Amounts that a closing charges to the segments in turn, from segment 2 on (12 CFR 1026.14(b)). Cents.
use Rattle.std.specs.Prelude.{ℕ, zero, suc, ◌≡◌, ◌+◌, ◌-◌, ◌==◌, nat_lt, if◌then◌else◌, take, length, List, [], ◌∷◌, ◌++◌, Option, slice_index_or}
use Rattle.card_model.specs.Caps.{capped_by}
use Rattle.card_model.specs.Closing.{within_limit}
use Rattle.card_model.specs.Cycles.{Amounts, Cycle, amount_at}
use Rattle.card_model.specs.Entries.{AreBalances, credit_balance, debit, owing}
use Rattle.card_model.specs.Limits.{balance_limit}
use Rattle.card_model.specs.declared.entry.Entry.{Entry}
use Rattle.card_model.specs.declared.entry.Note.{Note}
use Rattle.card_segments.specs.Balances.{AreWithin, Balances}

-- what was charged so far, by segment, and all entries
pub record Turn : Type 0 where
  pub amounts : Amounts
  pub entries : List Entry

-- the two together
abbrev pub turn_of : Amounts → List Entry → Turn
turn_of charges all = record { amounts = charges; entries = all }

-- amounts with one more, none for 0
abbrev pub with_amount : ℕ → ℕ → Amounts → Amounts
with_amount s cents amounts = amounts ++ (if cents == 0 then [] else (s, cents) ∷ [])

-- what an issued statement leaves of an amount for a segment, where so much was charged
unfoldable pub left_by : Option Cycle → Amounts → ℕ → ℕ → ℕ
left_by issued done s cents = capped_by (λ c. amount_at s c.interest - amount_at s done) issued cents

-- of what is asked of a segment, what keeps it within 10^13 cents, and what the issued statement leaves
unfoldable pub charge_for : Option Cycle → Turn → ℕ → ℕ → ℕ
charge_for issued t s asked = left_by issued t.amounts s (within_limit (owing s t.entries) asked)

-- entries with a debit more, whatever of it a credit balance bears
unfoldable pub debited : Note → ℕ → ℕ → List Entry → List Entry
debited note s cents entries = entries ++ debit note s cents (credit_balance entries)

-- interest raises no balance above it, in cents
abbrev pub interest_limit : ℕ
interest_limit = 10_000_000_000_000

-- cents charged to a segment
unfoldable pub with_charge : Note → ℕ → ℕ → Turn → Turn
with_charge note s cents t = record { amounts = with_amount s cents t.amounts; entries = debited note s cents t.entries }

-- what is asked of a segment, charged to it
unfoldable pub charged : Option Cycle → Note → ℕ → ℕ → Turn → Turn
charged issued note s asked t = with_charge note s (charge_for issued t s asked) t

-- so many segments in turn, with what is asked of each
unfoldable pub in_turn : Option Cycle → Note → (List Entry → ℕ → ℕ) → ℕ → Turn → Turn
in_turn issued note asked zero t = t
in_turn issued note asked (suc n) t =
    let before = in_turn issued note asked n t in
    with_charge note (n + 2) (charge_for issued before (n + 2) (asked before.entries (n + 2))) before

-- ---- what is asked
-- the amount of a segment in a list that begins with segment 2
abbrev pub of_segment : List ℕ → ℕ → ℕ
of_segment amounts s = slice_index_or amounts (s - 2) 0

-- each its own
abbrev pub asked_of : List ℕ → List Entry → ℕ → ℕ
asked_of amounts entries s = of_segment amounts s

-- each its own, where something is owed
abbrev pub asked_where_owed : List ℕ → List Entry → ℕ → ℕ
asked_where_owed amounts entries s = if nat_lt 0 (owing s entries) then of_segment amounts s else 0

-- ---- what stays
-- balances are the sums of the entries, each at most 10^15 in size
pub record AreInStep (balances : Balances) (entries : List Entry) : Type 0 where
  pub sums : AreBalances entries balances.balances
  pub small : AreWithin balance_limit balances.balances

-- so they are after more entries, with the same segments
pub record StayInStep (old new : Balances) (entries : List Entry) : Type 0 where
  pub step : AreInStep new entries
  pub segments : new.segments ≡ old.segments
  pub balances : length new.balances ≡ length old.balances

-- a list that begins with another
abbrev pub BeginsWith : List Entry → List Entry → Type 0
BeginsWith old new = take (length old) new ≡ old
