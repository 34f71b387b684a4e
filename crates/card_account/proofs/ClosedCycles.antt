-- A cycle that is closed before today is in the book of today.
use Rattle.std.proofs.Common.{◌≡◌, ℕ, zero, suc, ◌<◌, ◌≤◌, Bool, true, false, List, [], ◌∷◌, length, Option, Some, None, refl, arith}
use Rattle.std.specs.Prelude.{IsSomeAnd, is_some, if◌then◌else◌, nat_lt, not, ◌==◌, slice_get}
use Rattle.std.specs.Option.{option_map}
use Rattle.std.proofs.lemmas.Bool.{and_parts, ltb-true}
use Rattle.card_account.specs.Accounts.{is_closed, restated_as, restated_statement}
use Rattle.card_replay.specs.Replays.{present_of}
use Rattle.card_account.specs.Closed.{ClosedCyclesAreInTheBook}
use Rattle.card_events.specs.Billing.{closing}
use Rattle.card_events.specs.Range.{last_request_day}
use Rattle.card_events.specs.History.{anchor_of}
use Rattle.card_model.specs.Caps.{row_for}
use Rattle.card_model.specs.CycleDays.{HasItsDays, IsOpening}
use Rattle.card_model.specs.Cycles.{Cycle, IssuedRow}
use Rattle.card_model.specs.Folds.{book, cycle_at}
use Rattle.card_model.specs.Refusals.{Present, book_today}
use Rattle.card_model.proofs.Calendar.{cycles_are_of_the_calendar}
use Rattle.card_replay.proofs.Owing.{closed-there}

-- ---- a list of cycles has those with numbers from 1 to their count
pub from_one : (k : ℕ) → not (k == 0) ≡ true → 1 ≤ k
from_one zero e = cc
from_one (suc k) e = omega arith

in_place : (P : Cycle → Type 0) (i : ℕ) (cs : List Cycle) → ((c : Cycle) → slice_get cs i ≡ Some c → P c) → i < length cs → IsSomeAnd (slice_get cs i) P
in_place P i [] each l = absurd (omega (arith, l))
in_place P zero (c ∷ cs) each l = each c refl
in_place P (suc i) (c ∷ cs) each l = in_place P i cs each (omega arith)

in_list : (P : Cycle → Type 0) (k : ℕ) (cs : List Cycle) → ((c : Cycle) → cycle_at k cs ≡ Some c → P c) → 1 ≤ k → k ≤ length cs → IsSomeAnd (cycle_at k cs) P
in_list P zero cs each low high = absurd (omega (arith, low))
in_list P (suc k) cs each low high = in_place P k cs each (omega (arith, high))

-- ---- the book of today
pub in_book : (now : Present) (cycle : ℕ) → IsOpening (anchor_of now.lists.posts) → (anchor_of now.lists.posts).opened ≤ now.today → now.today ≤ last_request_day
    → is_closed now.today now.lists cycle ≡ true → IsSomeAnd (cycle_at cycle (book_today now).cycles) (HasItsDays (anchor_of now.lists.posts) cycle)
unfolding book_today
in_book now cycle open' low dated e =
    let a = anchor_of now.lists.posts in
    let b = book now.lists.posts now.lists.issued now.shared now.today in
    let parts = and_parts (not (cycle == 0)) (nat_lt (closing a cycle) now.today) e in
    let shut = ltb-true (closing a cycle) now.today parts.1 in
    in_list (HasItsDays a cycle) cycle b.cycles
    (λ c is. cycles_are_of_the_calendar.days now.lists.posts now.lists.issued now.shared now.today cycle c open' (omega (arith, dated)) is)
    (from_one cycle parts.0) (closed-there now.lists now.shared now.today cycle open' low dated shut)

-- ---- the restated statement
some_of : (P : Cycle → Type 0) (o : Option Cycle) → IsSomeAnd o P → is_some o ≡ true
some_of P None there = absurd there
some_of P (Some c) there = refl

some_where : (now : Present) (issued : Option IssuedRow) (o : Option Cycle) (t : Bool) → (t ≡ true → is_some o ≡ true) → is_some (if t then option_map (restated_as now issued) o else None) ≡ t
some_where now issued o false there = refl
some_where now issued None true there = there refl
some_where now issued (Some c) true there = refl

restated_there : (now : Present) (cycle : ℕ) → (is_closed now.today now.lists cycle ≡ true → is_some (cycle_at cycle (book_today now).cycles) ≡ true)
    → is_some (restated_statement now cycle) ≡ is_closed now.today now.lists cycle
unfolding restated_statement
restated_there now cycle there = some_where now (row_for cycle now.lists.issued) (cycle_at cycle (book_today now).cycles) (is_closed now.today now.lists cycle) there

pub closed_cycles_are_in_the_book : ClosedCyclesAreInTheBook
closed_cycles_are_in_the_book today shared a may =
    let now = present_of today shared a.named.lists in
    record {
      there = λ cycle e. in_book now cycle may.sound.opening may.reached.opened may.reached.dated e;
      restated = λ cycle. restated_there now cycle
          (λ e. some_of (HasItsDays (anchor_of now.lists.posts) cycle) (cycle_at cycle (book_today now).cycles) (in_book now cycle may.sound.opening may.reached.opened may.reached.dated e));
    }
