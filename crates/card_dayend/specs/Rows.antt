-- The rows of days: those of each segment, and what a deferred balance accrues (12 CFR 1026.14(b), .55(b)(1), comment
-- 55(b)(1)-3). Days are day numbers, balances cents, rates basis points.
use Rattle.std.specs.Prelude.{ℕ, ◌≤◌, List, [], ◌∷◌, Option, Some, None, ℤ, pos, slice_index_or}
use Rattle.card_events.specs.SharedRows.{IndexRow}
use Rattle.card_closing.specs.Accruals.{Accrued, with_accrual}
use Rattle.card_closing.specs.BookRows.{rate_of}
use Rattle.card_closing.specs.Rows.{Rows, with_days}
use Rattle.card_model.specs.Entries.{at_least_zero}
use Rattle.card_model.specs.Rates.{accrual_rate}
use Rattle.card_model.specs.Segments.{SegmentTerms}
use Rattle.card_rates.specs.RateBooks.{Rates}
use Rattle.card_rates.specs.RateBooks.{rate_of as rate_in_force}
use Rattle.card_daily.specs.Given.{Given, IsSound, opened_in}
use Rattle.card_daily.specs.Stands.{AreAmid, posts_of}
use Rattle.card_daily.specs.declared.state.State.{State}
use Rattle.card_daily.specs.declared.track.Track.{Track}

-- ---- a segment
-- its rows with those of so many days on which this is owed, at the rate of one day, under this index, where that isn't 0
abbrev pub with_row : List IndexRow → ℕ → Rates → ℕ → SegmentTerms → ℕ → Rows → Rows
with_row index days rates day t owed rows = with_days days owed (rate_of owed (rate_in_force index rates day t)) rows

-- its accrual with so many days on which this is owed, where it accrues at a rate
abbrev pub with_accrual_at : ℕ → Option ℕ → ℕ → Accrued → Accrued
with_accrual_at days None owed accrued = accrued
with_accrual_at days (Some rate) owed accrued = with_accrual days owed rate accrued

-- ---- each segment
-- what is owed on it, by the balances
abbrev pub owed_on : List ℤ → SegmentTerms → ℕ
owed_on balances t = at_least_zero (slice_index_or balances t.id (pos 0))

-- what is kept of each segment in turn, after a change of its own
unfoldable pub each_with : {A : Type 0} → (SegmentTerms → A → A) → List SegmentTerms → List A → List A
each_with change [] xs = xs
each_with change (t ∷ ts) [] = []
each_with change (t ∷ ts) (x ∷ xs) = change t x ∷ each_with change ts xs

-- the rows of each with those of so many days, at the rates of one day
abbrev pub with_rows : List IndexRow → ℕ → Rates → List ℤ → ℕ → List Rows → List Rows
with_rows index days rates balances day rows = each_with (λ t r. with_row index days rates day t (owed_on balances t) r) rates.segments rows

-- the accruals of each with so many days, at the rates of one day
abbrev pub with_accruals : ℕ → Rates → List ℤ → ℕ → List Accrued → List Accrued
with_accruals days rates balances day accruals = each_with (λ t x. with_accrual_at days (accrual_rate day t) (owed_on balances t) x) rates.segments accruals

-- ---- an account
-- the posts of a day are folded, and its rows are still to come
pub record AwaitsRows (day : ℕ) (s : State) : Type 0 where
  pub given : Given
  pub track : Track
  pub sound : IsSound given
  pub opened : opened_in given ≤ day
  pub amid : AreAmid given day (posts_of given day) s track
