-- A rule of the ledger's own, so that no correction charges more than a statement said (12 CFR 1026.5(b)(2), .7(b)).
-- What was issued bounds what is recomputed: of a cycle with an issued statement, the interest of each segment, the fee
-- for each due date (in Fees), the minimum payment and the grace amount.
use Rattle.std.specs.Prelude.{ℕ, ◌-◌, ◌==◌, if◌then◌else◌, min, List, [], ◌∷◌, Option, Some, None}
use Rattle.card_model.specs.Cycles.{Amounts, IssuedRow, amount_at}

-- the first issued row of a cycle
unfoldable pub row_for : ℕ → List IssuedRow → Option IssuedRow
row_for cycle [] = None
row_for cycle (r ∷ rs) = let later = row_for cycle rs in if r.cycle == cycle then Some r else later

-- a number, at most that of what was issued: of the row, or of a part of it
abbrev pub capped_by : {A : Type 0} → (A → ℕ) → Option A → ℕ → ℕ
capped_by f None n = n
capped_by f (Some issued) n = min n (f issued)

-- the minimum payment of an issued row
abbrev pub issued_minimum : IssuedRow → ℕ
issued_minimum r = r.statement.minimum

-- the grace amount of an issued row
abbrev pub issued_grace : IssuedRow → ℕ
issued_grace r = r.statement.grace_amount

-- what an issued row leaves of a segment's interest where so much was posted
abbrev pub issued_interest : ℕ → Amounts → IssuedRow → ℕ
issued_interest s done r = amount_at s r.statement.interest - amount_at s done
