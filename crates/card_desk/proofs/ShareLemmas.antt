-- A desk after a shared request that is accepted.
use Rattle.std.proofs.Common.{◌≡◌, ℕ, ◌+◌, Bool, true, List, [], ◌∷◌, ◌++◌, None, refl, subst, sym}
use Rattle.card_account.specs.Accounts.{OpenAccount}
use Rattle.card_desk.specs.Desks.{IsDesk, IsRun, state_of}
use Rattle.card_desk.specs.Shares.{IsLoadable, loaded}
use Rattle.card_desk.proofs.FoldLemmas.{accounts_later, accounts_rolled, all_running, later_fees, later_holidays, later_index}
use Rattle.card_desk.proofs.KeptLemmas.{few_fees, later_holiday, later_rate, later_row, more_fees, more_holidays, more_index, same_fees, same_index, rolled_by, rolled_later, same_holidays, shared_desk, small_rate}
use Rattle.card_desk.proofs.RowLemmas.{holiday_day}
use Rattle.card_events.specs.Dated.{is_dated}
use Rattle.card_events.specs.SharedRows.{FeeRow, IndexRow, SharedRows, shared_rows}
use Rattle.card_events.specs.declared.request.Request.TheVariants as request
use Rattle.card_events.specs.declared.request.Shared.{Shared}
use Rattle.card_events.specs.declared.request.Shared.TheVariants as shared
use Rattle.card_model.specs.Accepted.{HasFewFees}
use Rattle.card_model.specs.Machine.{State, has_accounts, rolled, shared_reason}
use Rattle.card_model.proofs.Accepting.{runs_are_accepted}
use Rattle.std.specs.List.{All}
use Rattle.std.proofs.lemmas.List.Elements.{All-push}
use Rattle.card_rows.specs.Held.{is_request}

-- what it brings is in its range
pub loadable : (today : ℕ) (any : Bool) (r : Shared) → is_dated (request.Shared r) ≡ true → shared_reason today any r ≡ None → IsLoadable r
loadable today any (shared.Roll day) dated none = tt
loadable today any (shared.Holiday day) dated none = holiday_day day (request.Shared (shared.Holiday day)) refl dated
loadable today any (shared.FeeRow day first repeat) dated none = few_fees today any day first repeat none
loadable today any (shared.Index day rate) dated none = small_rate today any day rate none

-- the fees of a run are within their range
few_in : (common : SharedRows) (rows : List Shared) (accounts : List OpenAccount) (today : ℕ) → common.fees ≡ (shared_rows rows).fees → IsRun (state_of today rows accounts) → All HasFewFees common.fees
few_in common rows accounts today table ran =
    subst (All HasFewFees) (sym table) (subst (λ (s : State). All HasFewFees (shared_rows s.shared).fees) (sym ran.state_is) (runs_are_accepted ran.requests).fees)

-- and the desk is that of the state with it
pub loaded_desk : (places : List (List ℕ × ℕ)) (common : SharedRows) (count today : ℕ) (rows : List Shared) (accounts : List OpenAccount) (r : Shared)
    → IsDesk places common count today rows accounts → is_request (request.Shared r) ≡ true → shared_reason today (has_accounts (state_of today rows accounts)) r ≡ None
    → IsDesk places (loaded r common) (count + 1) (rolled today r) (rows ++ r ∷ []) accounts
unfolding is_request
loaded_desk places common count today rows accounts (shared.Roll day) desk held none =
    shared_desk places common common count today rows accounts (shared.Roll day) desk held none (same_holidays common.holidays rows (shared.Roll day) refl desk.holidays)
    (same_fees common.fees rows (shared.Roll day) refl desk.table) (same_index common.index rows (shared.Roll day) refl desk.index_rows)
    (accounts_rolled today day common accounts (rolled_later today (has_accounts (state_of today rows accounts)) day none) (rolled_by today (shared.Roll day) held desk.dated) desk.accounts)
loaded_desk places common count today rows accounts (shared.Holiday day) desk held none =
    let s = state_of today rows accounts in
    shared_desk places common (loaded (shared.Holiday day) common) count today rows accounts (shared.Holiday day) desk held none (more_holidays common.holidays rows day desk.holidays)
    (same_fees common.fees rows (shared.Holiday day) refl desk.table) (same_index common.index rows (shared.Holiday day) refl desk.index_rows)
    (accounts_later s common (loaded (shared.Holiday day) common) accounts (all_running s desk.ran) (few_in common rows accounts today desk.table desk.ran)
    (later_holidays today day common (later_holiday today (has_accounts s) day none)) desk.accounts)
loaded_desk places common count today rows accounts (shared.FeeRow day first repeat) desk held none =
    let r = shared.FeeRow day first repeat in
    let s = state_of today rows accounts in
    let row : FeeRow = record { day = day; first = first; repeat = repeat } in
    let few = All-push HasFewFees common.fees row (few_in common rows accounts today desk.table desk.ran) (few_fees today (has_accounts s) day first repeat none) in
    shared_desk places common (loaded r common) count today rows accounts r desk held none (same_holidays common.holidays rows r refl desk.holidays)
    (more_fees common.fees rows day first repeat desk.table) (same_index common.index rows r refl desk.index_rows)
    (accounts_later s common (loaded r common) accounts (all_running s desk.ran) few (later_fees today row common (later_row today (has_accounts s) day first repeat none)) desk.accounts)
loaded_desk places common count today rows accounts (shared.Index day rate) desk held none =
    let r = shared.Index day rate in
    let s = state_of today rows accounts in
    let row : IndexRow = record { day = day; rate = rate } in
    shared_desk places common (loaded r common) count today rows accounts r desk held none (same_holidays common.holidays rows r refl desk.holidays)
    (same_fees common.fees rows r refl desk.table) (more_index common.index rows day rate desk.index_rows)
    (accounts_later s common (loaded r common) accounts (all_running s desk.ran) (few_in common rows accounts today desk.table desk.ran)
    (later_index today row common (later_rate today (has_accounts s) day rate none)) desk.accounts)
