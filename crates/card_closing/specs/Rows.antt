-- The rows and repayments of a segment in a cycle, and its interest (12 CFR 1026.14(b), .54). Days are day numbers, balances
-- and repayments cents, rates basis points.
use Rattle.std.specs.Prelude.{ℕ, ◌+◌, ◌-◌, ◌*◌, ◌&&◌, not, ◌==◌, nat_le, nat_lt, if◌then◌else◌, map, List, [], ◌∷◌, ◌++◌, length}
use Rattle.std.specs.List.{filter, range_with_len, sum_by}
use Rattle.card_events.specs.Money.{daily}
use Rattle.card_closing.specs.declared.rows.Repayment.{Repayment}
use Rattle.card_model.specs.Interest.{half_up}
use Rattle.card_model.specs.declared.grace.GraceCase.{GraceCase}
use Rattle.card_model.specs.declared.grace.GraceCase.TheVariants as case

-- a day with its balance and its rate
pub record DayRow : Type 0 where
  pub day : ℕ
  pub balance : ℕ
  pub rate : ℕ

-- the first day of the cycle, a row for each day from it on, and what payments and credits brought
pub record Rows : Type 0 where
  pub first : ℕ
  pub days : List DayRow
  pub repaid : List Repayment

-- ---- how they grow
-- a cycle that begins on a day
abbrev pub no_rows : ℕ → Rows
no_rows first = record { first = first; days = []; repaid = [] }

-- a day with this balance and rate
abbrev pub row_of : ℕ → ℕ → ℕ → DayRow
row_of balance rate day = record { day = day; balance = balance; rate = rate }

-- so many days from one on, with the same balance and rate
abbrev pub equal_days : ℕ → ℕ → ℕ → ℕ → List DayRow
equal_days from n balance rate = map (row_of balance rate) (range_with_len from n)

-- so many equal days more, from the day after the last
abbrev pub with_days : ℕ → ℕ → ℕ → Rows → Rows
with_days n balance rate rows = record rows { days = rows.days ++ equal_days (rows.first + length rows.days) n balance rate }

-- a repayment more
abbrev pub with_repayment : Repayment → Rows → Rows
with_repayment r rows = record rows { repaid = rows.repaid ++ r ∷ [] }

-- the repayments of other posts
abbrev pub others : ℕ → List Repayment → List Repayment
others post repaid = filter (λ r. not (r.post == post)) repaid

-- without all repayments of a post
abbrev pub without_post : ℕ → Rows → Rows
without_post post rows = record rows { repaid = others post rows.repaid }

-- ---- what bears interest
-- what was repaid on the days after one, up to a due date
abbrev pub repaid_later : List Repayment → ℕ → ℕ → ℕ
repaid_later repaid day due = sum_by (λ r. if nat_lt day r.day && nat_le r.day due then r.cents else 0) repaid

-- the balance of a day that bears interest (12 CFR 1026.54(a)(1))
abbrev pub bearing : GraceCase → List Repayment → DayRow → ℕ
bearing case.None repaid r = 0
bearing (case.Lowered due) repaid r = r.balance - repaid_later repaid r.day due
bearing case.Plain repaid r = r.balance

-- the sum of the balances that bear interest, each times its day's rate in billionths
abbrev pub interest_on : GraceCase → Rows → ℕ
interest_on c rows = sum_by (λ r. bearing c rows.repaid r * daily r.rate) rows.days

-- the average of the balances that bear interest, half up, and 0 of no days
abbrev pub average_of : GraceCase → Rows → ℕ
average_of c rows = half_up (sum_by (bearing c rows.repaid) rows.days) (length rows.days)
