-- Laws on due dates: of the posts and the issued statements that the fold of a day sees, the rules say what they say of all of them
-- (12 CFR 1026.5(b)(2)(ii), .52(b), .53(a), .54(a)(1)).
use Rattle.std.specs.Prelude.{ℕ, ◌≡◌, ◌≤◌, nat_lt, IfSome, List, Option, Some}
use Rattle.std.specs.List.{filter}
use Rattle.std.specs.Option.{option_map}
use Rattle.card_events.specs.declared.anchor.Anchor.{Anchor}
use Rattle.card_events.specs.History.{CorrectedPost}
use Rattle.card_model.specs.Accepted.{AreSingle}
use Rattle.card_model.specs.Caps.{row_for}
use Rattle.card_model.specs.CycleDays.{HasItsDays}
use Rattle.card_model.specs.Cycles.{Cycle, IssuedRow, Seen}
use Rattle.card_model.specs.Folds.{cycle_at}
use Rattle.card_model.specs.Interest.{case_after}
use Rattle.card_model.specs.Payments.{due_cycle_of, has_due_payment, is_met, is_owed_sixty_days, is_paid, left_before, left_by}
use Rattle.card_model.specs.declared.due_cycle.DueCycle.{DueCycle}
use Rattle.card_model.specs.declared.fee.Fee.{Fee}
use Rattle.card_fees.specs.Asked.{is_due_by}
use Rattle.card_fees.specs.Due.{seen_of}

-- up to a day, the posts that the fold of that day sees are enough
pub record PastPostsAreEnough : Type 0 where
  pub met : (day : ℕ) (posts : List CorrectedPost) (c : DueCycle) → c.due ≤ day → is_met (seen_of day posts) c ≡ is_met posts c
  pub paid : (day : ℕ) (posts : List CorrectedPost) (c : DueCycle) → c.due ≤ day → is_paid (seen_of day posts) c ≡ is_paid posts c
  pub left : (day : ℕ) (posts : List CorrectedPost) (c : DueCycle) → left_by (seen_of day posts) day c ≡ left_by posts day c
  pub owed : (day : ℕ) (posts : List CorrectedPost) (c : DueCycle) → is_owed_sixty_days (seen_of day posts) day c ≡ is_owed_sixty_days posts day c
  pub case :
      (day : ℕ) (posts : List CorrectedPost) (before last : Option DueCycle) → IfSome before (λ c. c.due ≤ day) → IfSome last (λ c. c.due ≤ day)
      → case_after (seen_of day posts) before last ≡ case_after posts before last
  pub before : (day number : ℕ) (posts : List CorrectedPost) (c : DueCycle) → left_before (seen_of day posts) day number c ≡ left_before posts day number c

-- each cycle has the calendar's number and days
abbrev pub AreOfTheCalendar : Anchor → List Cycle → Type 0
AreOfTheCalendar a cycles = (k : ℕ) (c : Cycle) → cycle_at k cycles ≡ Some c → HasItsDays a k c

-- the due dates of the cycles lie no later than today
abbrev pub AreDueBy : ℕ → List Cycle → Type 0
AreDueBy day cycles = (k : ℕ) (c : Cycle) → cycle_at k cycles ≡ Some c → c.due ≤ day

-- the cycle with a number, as its due date sees it
abbrev pub due_cycle_at : Seen → ℕ → List Cycle → Option DueCycle
due_cycle_at seen k cycles = option_map (due_cycle_of seen.issued) (cycle_at k cycles)

-- the day on which a cycle's statement was issued, of all issued rows
abbrev pub issue_day : ℕ → List IssuedRow → Option ℕ
issue_day cycle issued = option_map (λ r. r.day) (row_for cycle issued)

-- where no cycle has two issued rows, one has a due payment by those before a day where its own is such a row
abbrev pub DuePaymentsBySingleRows : Type 0
DuePaymentsBySingleRows =
    (issued : List IssuedRow) (day : ℕ) (c : Cycle) → AreSingle issued → has_due_payment (filter (λ r. nat_lt r.day day) issued) c ≡ is_due_by c.due day (issue_day c.number issued)

-- the fees of an issued row
abbrev pub issued_fees : Option IssuedRow → Option (List Fee)
issued_fees issued = option_map (λ r. r.statement.fees) issued
