-- What is kept of each closing of an account, so that its Book may be taken back to it. Days are day numbers.
use Rattle.std.specs.Prelude.{ℕ, ◌+◌, ◌-◌, ◌==◌, ◌≡◌, ◌<◌, ◌≤◌, ◌&&◌, is_some, map, nat_le, take, List, [], ◌∷◌, ◌++◌, length, slice_get, slice_index_or, Option, Some}
use Rattle.std.specs.List.{All, filter, find}
use Rattle.std.specs.Option.{option_map_or}
use Rattle.card_events.specs.History.{anchor_of, terms_of}
use Rattle.card_events.specs.declared.kept.Kept.{Kept}
use Rattle.card_closing.specs.Accruals.{Accrued, nothing_accrued}
use Rattle.card_model.specs.Cycles.{Cycle}
use Rattle.card_model.specs.Folds.{cycle_at}
use Rattle.card_model.specs.Rates.{accrual_rate}
use Rattle.card_model.specs.Segments.{SegmentTerms}
use Rattle.card_rates.specs.RateBooks.{rates_of}
use Rattle.card_daily.specs.Given.{Given, book_on}
use Rattle.card_daily.specs.Stands.{HaveAccrued}
use Rattle.card_daily.specs.declared.state.State.{State}
use Rattle.card_book.specs.GoingOn.{Continues}
use Rattle.card_book.specs.Stands.{since_through}
use Rattle.card_book.specs.declared.marks.Accruing.{Accruing}

-- ---- what deferred plans have accrued
-- what is kept of one at the closing of a cycle
abbrev pub accruing_of : ℕ → List Accrued → SegmentTerms → Accruing
accruing_of cycle accruals t = record { cycle = cycle; segment = t.id; accrual = slice_index_or accruals (t.id - 2) nothing_accrued }

-- of all that are in their period on the day of the closing, in order of number
unfoldable pub accruing_on : ℕ → ℕ → State → List Accruing
accruing_on cycle day s = map (accruing_of cycle s.accruals.items) (filter (λ t. is_some (accrual_rate day t)) s.rates.segments)

-- what was kept of a segment at the closing of a cycle, nothing where it had none
unfoldable pub accrued_at : ℕ → List Accruing → ℕ → Accrued
accrued_at cycle kept segment =
    option_map_or (λ (a : Accruing). a.accrual) (find (λ (a : Accruing). (a.cycle == cycle) && (a.segment == segment)) kept) nothing_accrued

-- of each of these segments
abbrev pub accrued_by : ℕ → List Accruing → List SegmentTerms → List Accrued
accrued_by cycle kept ts = map (λ t. accrued_at cycle kept t.id) ts

-- those of the first k cycles
abbrev pub accrued_to : ℕ → List Accruing → List Accruing
accrued_to k kept = filter (λ a. nat_le a.cycle k) kept

-- ---- marks
-- the segments of an account that may have accrued
abbrev pub rated_in : Given → List SegmentTerms
rated_in g = (rates_of g.shared.holidays g.history []).segments

-- these are, at the closing of cycle k, the first day of the run of days with a credit balance and what has accrued
pub record IsMark (g : Given) (k : ℕ) (c : Cycle) (first : Option ℕ) (kept : List Accruing) : Type 0 where
  pub since : first ≡ since_through g (Some c.closing)
  pub accrued : HaveAccrued g c.closing (book_on g c.closing) (rated_in g) (accrued_by k kept (rated_in g))

-- of each of these cycles, and of no others and no other segments; what has accrued stands in the order of the cycles
pub record AreMarks (g : Given) (cycles : List Cycle) (since : List (Option ℕ)) (kept : List Accruing) : Type 0 where
  pub count : length since ≡ length cycles
  pub each : (k : ℕ) (c : Cycle) (s : Option ℕ) → cycle_at k cycles ≡ Some c → slice_get since (k - 1) ≡ Some s → IsMark g k c s kept
  pub closed : All (λ a. a.cycle ≤ length cycles) kept
  pub ordered : (k : ℕ) → take (length (accrued_to k kept)) kept ≡ accrued_to k kept
  pub there : All (λ a. a.segment < length (rated_in g) + 2) kept

-- ---- marks go on
-- one closing more, where its mark stands behind the others
abbrev pub MarksGrow : Type 0
MarksGrow =
    (g : Given) (cycles : List Cycle) (since : List (Option ℕ)) (kept more : List Accruing) (c : Cycle) (s : Option ℕ)
    → AreMarks g cycles since kept → All (λ a. a.cycle ≡ length cycles + 1) more → All (λ a. a.segment < length (rated_in g) + 2) more
    → IsMark g (length cycles + 1) c s more → AreMarks g (cycles ++ c ∷ []) (since ++ s ∷ []) (kept ++ more)

-- over what is given now, where all these cycles closed before it changed
pub record ClosedBefore (old g : Given) (cycles : List Cycle) : Type 0 where
  pub new : List Kept
  pub history : g.history ≡ old.history ++ new
  pub anchor : anchor_of g.history ≡ anchor_of old.history
  pub terms : terms_of g.history ≡ terms_of old.history
  pub continues : (k : ℕ) (c : Cycle) → cycle_at k cycles ≡ Some c → Continues old g (Some c.closing)

abbrev pub MarksGoOn : Type 0
MarksGoOn =
    (old g : Given) (cycles : List Cycle) (since : List (Option ℕ)) (kept : List Accruing) → ClosedBefore old g cycles → AreMarks old cycles since kept
    → AreMarks g cycles since kept
