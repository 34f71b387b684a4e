-- Days on which nothing happens, and the break day behind them. Days are day numbers.
use Rattle.std.specs.Prelude.{ℕ, ◌+◌, ◌-◌, ◌≡◌, ◌≤◌, ◌<◌, Bool, ◌&&◌, ◌==◌, nat_le, length, slice_index_or, List, Some, None, IfSome}
use Rattle.std.specs.List.{list_any}
use Rattle.card_events.specs.Billing.{closing, due}
use Rattle.card_events.specs.Business.{is_due}
use Rattle.card_events.specs.Civil.{day_of_month}
use Rattle.card_events.specs.Range.{last_request_day}
use Rattle.card_events.specs.declared.anchor.Anchor.{Anchor}
use Rattle.card_events.specs.History.{CorrectedPost, anchor_of, corrected}
use Rattle.card_model.specs.Breaks.{is_break}
use Rattle.card_model.specs.CycleDays.{IsOpening}
use Rattle.card_model.specs.Cycles.{IssuedRow}
use Rattle.card_model.specs.declared.segment.Interval.{Interval}
use Rattle.card_rates.specs.Laws.{AreQuiet}
use Rattle.card_daily.specs.Given.{Given, IsSound, account_in, opened_in}
use Rattle.card_daily.specs.Stands.{AreBefore}
use Rattle.card_daily.specs.declared.state.State.{State}
use Rattle.card_daily.specs.declared.track.Track.{Track}
use Rattle.card_dayend.specs.declared.cursor.CycleDates.{CycleDates}
use Rattle.card_dayend.specs.declared.cursor.Cursor.{Cursor}

-- ---- break days
-- a post of the corrected list, of any kind, is effective on the day
abbrev pub has_post : List CorrectedPost → ℕ → Bool
has_post posts day = list_any (λ p. p.day == day) posts

-- a cycle closes
abbrev pub closes : Anchor → ℕ → Bool
closes a day = nat_le a.opened day && (day_of_month day == a.close_day)

-- the day before was a due date
abbrev pub follows_due : Anchor → ℕ → Bool
follows_due a day = is_due a (day - 1)

-- a statement was issued
abbrev pub has_issue : List IssuedRow → ℕ → Bool
has_issue issued day = list_any (λ r. r.day == day) issued

-- the statements before a place were issued before a day, and no others
pub record IsIssueCut (issued : List IssuedRow) (day place : ℕ) : Type 0 where
  pub front : (k : ℕ) (d : IssuedRow) → k < place → k < length issued → (slice_index_or issued k d).day < day
  pub back : (k : ℕ) (d : IssuedRow) → place ≤ k → k < length issued → day ≤ (slice_index_or issued k d).day

-- a break day of an account, by these penalties
abbrev pub breaks_by : Given → List Interval → ℕ → Bool
breaks_by g penalties day = is_break (account_in g) (corrected (anchor_of g.history) g.shared.holidays g.history) g.issued g.shared.index penalties day

-- ---- the cycle that a day lies in
-- the cycle with a number holds a day that may be folded
pub record IsCycleOf (a : Anchor) (number day : ℕ) : Type 0 where
  pub opening : IsOpening a
  pub opened : a.opened ≤ day
  pub last : day ≤ last_request_day
  pub numbered : 1 ≤ number
  pub after : closing a (number - 1) < day
  pub upto : day ≤ closing a number

-- the dates of a cycle, from a day of it on
pub record AreDatesOf (a : Anchor) (d : CycleDates) : Type 0 where
  pub cycle : IsCycleOf a d.number d.first
  pub closes : d.closing ≡ closing a d.number
  pub first_cycle : d.number ≡ 1 → d.after_due ≡ None
  pub follows : 1 < d.number → d.after_due ≡ Some (due a (d.number - 1) + 1)

-- a day that this cycle holds
pub record HoldDay (a : Anchor) (d : CycleDates) (day : ℕ) : Type 0 where
  pub dates : AreDatesOf a d
  pub first : d.first ≤ day
  pub upto : day ≤ d.closing
  pub last : day ≤ last_request_day

-- the dates that a cursor has are those of a cycle of the account
abbrev pub IsCursorOf : Given → Cursor → Type 0
IsCursorOf g c = IfSome c.cycle (AreDatesOf (anchor_of g.history))

-- ---- quiet days
-- the days before a day are folded, and so many from it on are no break days; the day behind them may be folded
pub record IsQuietFrom (g : Given) (first days : ℕ) (s : State) (t : Track) : Type 0 where
  pub sound : IsSound g
  pub opened : opened_in g ≤ first
  pub last : first + days ≤ last_request_day
  pub before : AreBefore g first s t
  pub quiet : AreQuiet g.history g.issued g.shared s.rates.penalties first days

-- of some account
pub record AwaitsBreak (first days : ℕ) (s : State) : Type 0 where
  pub given : Given
  pub track : Track
  pub quiet : IsQuietFrom given first days s track
