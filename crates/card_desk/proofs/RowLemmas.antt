-- One row that is loaded.
use Rattle.std.proofs.Common.{◌≡◌, ℕ, zero, suc, ◌≤◌, ◌<◌, ◌∷◌, [], length, get_or, arith, Bool, true, false, List, Option, Some, Result, Ok, Err, IfOk, ap, sym, subst, ◌∙◌}
use Rattle.std.specs.Prelude.{slice_get}
use Rattle.std.proofs.lemmas.Bool.{leb-true}
use Rattle.card_events.specs.Range.{last_request_day}
use Rattle.card_events.specs.Dated.{is_dated, is_dated_shared}
use Rattle.card_events.specs.declared.request.Request.{Request}
use Rattle.card_events.specs.declared.request.Request.TheVariants as request
use Rattle.card_events.specs.declared.request.Shared.TheVariants as shared
use Rattle.card_ports.specs.Rows.{KeepsRows, SameRowsTold, GivesRows}
use Rattle.card_ports.specs.declared.row.Row.{Row}
use Rattle.card_model.specs.Machine.{State, is_new}
use Rattle.card_rows.proofs.RequestLaws.{some_request, none_some}
use Rattle.card_rows.specs.Spelling.{IsSpelling, IsSomeSpelling}
use Rattle.card_rows.specs.declared.format.Format.{Format}
use Rattle.card_desk.specs.declared.fault.LoadFault.{LoadFault}
use Rattle.card_desk.specs.declared.fault.LoadFault.TheVariants as fault
use Rattle.card_desk.specs.Desks.{OpenDesk}
use Rattle.card_desk.specs.Kept.{IsNewRow, IsRunOf, Fits}
use Rattle.card_desk.proofs.SoundLemmas.{fits_told}

-- the bytes of a new row spell its request alone
the_bytes : (s : State) (n : ℕ) (row : Row) (bytes : List ℕ) (r : Request) → bytes ≡ row.body → IsNewRow s n row r → IsSomeSpelling bytes r
the_bytes s n row bytes r is new = subst (λ (b : List ℕ). IsSomeSpelling b r) (sym is) new.row_is.spelled

same : (s : State) (n : ℕ) (row : Row) (bytes : List ℕ) (given r : Request) → bytes ≡ row.body → IsSomeSpelling bytes given → IsNewRow s n row r → r ≡ given
same s n row bytes given r is spelled new = some_request bytes r given (the_bytes s n row bytes r is new) spelled

-- a request that isn't newly accepted
pub not_new : {E : Type 0} (found : Result Bool E) (s : State) (n : ℕ) (row : Row) (bytes : List ℕ) (given : Request) → bytes ≡ row.body → IsSomeSpelling bytes given → IfOk found (λ new. new ≡ is_new s given)
    → IfOk found (λ new. new ≡ false → (r : Request) → IsNewRow s n row r → ⊥)
not_new (Ok new) s n row bytes given is spelled answer = λ old r fresh.
    let newly : is_new s given ≡ true = ap (is_new s) (sym (same s n row bytes given r is spelled fresh)) ∙ fresh.newly in
    let no : false ≡ true = sym old ∙ answer ∙ newly in
    cc
not_new (Err e) s n row bytes given is spelled answer = tt

-- bytes that spell no request
pub not_spelled : (s : State) (n : ℕ) (row : Row) (bytes : List ℕ) (r : Request) → bytes ≡ row.body → ((f : Format) (r : Request) → IsSpelling f bytes r → ⊥) → IsNewRow s n row r → ⊥
not_spelled s n row bytes r is none fresh = none_some bytes r none (the_bytes s n row bytes r is fresh)

-- what is loaded fits the rows
pub fits_result : {E : Type 0} (old new : Option (List Row)) (given : List Row) (found : Result OpenDesk E) → KeepsRows old new → SameRowsTold old new → GivesRows old given
    → IfOk found (λ (d : OpenDesk). IsRunOf given d.state) → IfOk found (λ (d : OpenDesk). Fits new d.state)
fits_result old new given (Ok d) kept told gives is = fits_told old new given d.state kept told gives is
fits_result old new given (Err e) kept told gives is = tt

dated_holiday : (day : ℕ) → is_dated (request.Shared (shared.Holiday day)) ≡ true → day ≤ last_request_day
unfolding is_dated is_dated_shared
dated_holiday day is = leb-true _ _ is

-- the day of a Holiday is a day of requests
pub holiday_day : (day : ℕ) (r : Request) → r ≡ request.Shared (shared.Holiday day) → is_dated r ≡ true → day ≤ last_request_day
holiday_day day r is dated = dated_holiday day (ap is_dated (sym is) ∙ dated)

-- the row that a Damaged tells
pub told_number : (found : Result OpenDesk LoadFault) (m n : ℕ) → found ≡ Err (fault.Damaged m) → found ≡ Err (fault.Damaged n) → m ≡ n
told_number found m n one other = cc

-- the row at a place
pub at_place : (rows : List Row) (i : ℕ) (row : Row) → i < length rows → row ≡ get_or rows i row → slice_get rows i ≡ Some row
at_place [] i row low is = absurd (omega arith)
at_place (r ∷ rows) zero row low is = ap Some (sym is)
at_place (r ∷ rows) (suc i) row low is = at_place rows i row (omega arith) is
