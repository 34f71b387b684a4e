-- Penalty fees (12 CFR 1026.52(b)). Amounts are cents.
use Rattle.std.specs.Prelude.{ℕ, zero, suc, ◌+◌, Bool, true, false, ◌&&◌, ◌||◌, not, ◌==◌, nat_le, nat_lt, if◌then◌else◌, min, List, [], ◌∷◌, ◌++◌, Option, Some, None, pos}
use Rattle.std.specs.List.{filter, sum_by, list_any}
use Rattle.card_events.specs.SharedRows.{FeeRow}
use Rattle.card_model.specs.Books.{Account, Book, newest_purchase, note_of, present_cycle}
use Rattle.card_model.specs.Caps.{capped_by}
use Rattle.card_model.specs.Cycles.{Cycle, IssuedRow, Seen}
use Rattle.card_model.specs.Entries.{at_least_zero, credit_balance, debit}
use Rattle.card_model.specs.Payments.{asked, met}
use Rattle.card_model.specs.Segments.{last_that}
use Rattle.card_model.specs.declared.entry.EntryKind.TheVariants as kind
use Rattle.card_model.specs.declared.fee.Cause.{Cause}
use Rattle.card_model.specs.declared.fee.Fee.{Fee}
use Rattle.card_model.specs.declared.fee.FeeKind.{FeeKind}
use Rattle.card_model.specs.declared.fee.FeeKind.TheVariants as fee

-- the kinds of two fees are the same
abbrev pub is_fee_kind : FeeKind → FeeKind → Bool
is_fee_kind fee.Late fee.Late = true
is_fee_kind fee.Returned fee.Returned = true
is_fee_kind _ _ = false

-- ---- the table of amounts
-- of two rows the one with the later day, else the later one
abbrev pub later_row : FeeRow → Option FeeRow → FeeRow
later_row r None = r
later_row r (Some t) = if nat_lt t.day r.day then r else t

-- of the fee rows up to a day, the one with the latest day, and of two for one day the later one
abbrev pub row_in_force : List FeeRow → Option FeeRow
row_in_force [] = None
row_in_force (r ∷ rs) = Some (later_row r (row_in_force rs))

-- the row that is in force on a day
abbrev pub row_on : List FeeRow → ℕ → Option FeeRow
row_on rows day = row_in_force (filter (λ r. nat_le r.day day) rows)

-- the amount of a tier, 0 without a row
abbrev pub tier_amount : Option FeeRow → Bool → ℕ
tier_amount None repeat = 0
tier_amount (Some r) repeat = if repeat then r.repeat else r.first

-- ---- the tier (12 CFR 1026.52(b)(1)(ii)(B))
-- a fee of this kind at the first amount, in this cycle or one of the six before
abbrev pub was_first : FeeKind → ℕ → Fee → Bool
was_first k cycle f = is_fee_kind k f.kind && not f.repeat && nat_le cycle (f.cycle + 6) && nat_le f.cycle cycle

-- some fee was such a one, so the next is at the repeat amount
abbrev pub is_repeat : FeeKind → ℕ → List Fee → Bool
is_repeat k cycle fees = list_any (was_first k cycle) fees

-- ---- the fee
-- the cents of a fee
abbrev pub fee_cents : Fee → ℕ
fee_cents f = at_least_zero f.cents

-- the sum of fees
abbrev pub fees_sum : List Fee → ℕ
fees_sum fees = sum_by fee_cents fees

-- the fees charged in a cycle
abbrev pub fees_in : ℕ → List Fee → List Fee
fees_in cycle fees = filter (λ f. f.cycle == cycle) fees

-- the fee for a due date that was charged before (12 CFR 1026.52(b)(2)(ii))
abbrev pub is_charged_for : ℕ → List Fee → Bool
is_charged_for due_cycle fees = list_any (λ f. f.due_cycle == due_cycle) fees

-- the cycle of the last due date before a day
abbrev pub last_due : ℕ → List Cycle → Option Cycle
last_due day cycles = last_that (λ c. nat_lt c.due day) cycles

-- the least of the table's amount, the minimum payment of the due date, and that of the last due date before the fee's day
-- (12 CFR 1026.52(b)(2)(i))
abbrev pub fee_amount : Option FeeRow → Bool → ℕ → ℕ → ℕ
fee_amount row repeat minimum last_due = min (tier_amount row repeat) (min minimum last_due)

-- a fee of so many cents
abbrev pub fee_of : Cause → Bool → ℕ → Fee
fee_of c repeat cents = record { due_cycle = c.due_cycle; kind = c.kind; repeat = repeat; cycle = c.cycle; day = c.day; cents = pos cents }

-- the fee for a cause, by the row in force and the fees so far: none for 0 cents, and no second one for a due date
unfoldable pub fee_by : Option FeeRow → List Fee → Cause → ℕ → ℕ → Option Fee
fee_by row fees c minimum last_due =
    let repeat = is_repeat c.kind c.cycle fees in
    let cents = fee_amount row repeat minimum last_due in
    if is_charged_for c.due_cycle fees || (cents == 0) then None else Some (fee_of c repeat cents)

-- the fee for the due date of a closed cycle, charged today, in a cycle
abbrev pub fee_for : Seen → List Cycle → List Fee → ℕ → FeeKind → Cycle → Option Fee
fee_for seen cycles fees cycle k c =
    fee_by (row_in_force seen.fees) fees (record { kind = k; due_cycle = c.number; cycle = cycle; day = seen.day }) c.minimum (asked seen.issued (last_due seen.day cycles))

-- ---- what was issued bounds it, by the ledger's own rule on corrections
-- the cents of fees for a due date, 0 where there is none
abbrev pub fees_for : ℕ → List Fee → ℕ
fees_for due_cycle fees = sum_by (λ f. if f.due_cycle == due_cycle then fee_cents f else 0) fees

-- those in an issued row
abbrev pub issued_fee : ℕ → IssuedRow → ℕ
issued_fee due_cycle r = fees_for due_cycle r.statement.fees

-- a fee at other cents
abbrev pub at_cents : ℕ → Fee → Fee
at_cents cents f = record { due_cycle = f.due_cycle; kind = f.kind; repeat = f.repeat; cycle = f.cycle; day = f.day; cents = pos cents }

-- a fee at these cents, none for 0
abbrev pub fee_above : ℕ → Fee → Option Fee
fee_above zero f = None
fee_above (suc n) f = Some (at_cents (suc n) f)

-- a fee, at most what was issued for its due date. One of 0 isn't charged
abbrev pub charged_by : {A : Type 0} → (ℕ → A → ℕ) → Option A → Option Fee → Option Fee
charged_by cents issued None = None
charged_by cents issued (Some f) = fee_above (capped_by (cents f.due_cycle) issued (fee_cents f)) f

-- a fee of the present cycle, as its issued row lowers it
abbrev pub charged_fee : Option IssuedRow → Option Fee → Option Fee
charged_fee issued f = charged_by issued_fee issued f

-- ---- charged today
-- the fee for the due date of a cycle, charged today
abbrev pub penalty_fee : Option IssuedRow → Seen → Book → FeeKind → Cycle → Option Fee
penalty_fee issued seen b k c = charged_fee issued (fee_for seen b.cycles b.fees (present_cycle b) k c)

-- it is debited to the newest Purchase vintage
abbrev pub with_fee : Account → Seen → ℕ → Option Fee → Book → Book
with_fee a seen n None b = b
with_fee a seen n (Some f) b =
    record {
      entries = b.entries ++ debit (note_of seen kind.Fee n) (newest_purchase a seen) (fee_cents f) (credit_balance b.entries);
      cycles = b.cycles;
      fees = b.fees ++ f ∷ [];
      penalties = b.penalties;
    }

-- the late fee, where the due date wasn't met
abbrev pub late_fee : Option IssuedRow → Seen → Book → Cycle → Option Fee
late_fee issued seen b c =
    let charged = penalty_fee issued seen b fee.Late c in
    if met seen c then None else charged
