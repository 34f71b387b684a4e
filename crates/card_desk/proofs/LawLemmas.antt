-- Sound rows are damaged nowhere, and tell their requests.
use Rattle.std.proofs.Common.{◌≡◌, ℕ, zero, suc, ◌+◌, ◌-◌, ◌<◌, Bool, true, false, List, [], ◌∷◌, ◌++◌, length, take, Some, refl, ap, sym, ◌∙◌, subst, arith, append-nil}
use Rattle.std.specs.Prelude.{if◌then◌else◌, slice_get}
use Rattle.std.specs.List.{list_all}
use Rattle.card_events.specs.declared.request.Request.{Request}
use Rattle.card_ports.specs.declared.row.Row.{Row}
use Rattle.card_model.specs.Machine.{State, start, step, run, is_new, accepted_from}
use Rattle.card_rows.specs.Held.{is_request}
use Rattle.card_desk.specs.Kept.{AreSound, AreDamaged, AreRowsFrom, IsRowOf, IsRunOf, accepted_count, new_rows, row_of, rows_of, rows_from}
use Rattle.card_desk.proofs.MixedRows.{written_row, written_rows, are_length, are_more, are_same, row_at}
use Rattle.card_desk.proofs.LoadLemmas.{old_stays}
use Rattle.card_desk.proofs.RunLemmas.{front_new, accepted_again, accepted_both, taken_again}
use Rattle.card_desk.proofs.SoundLemmas.{run_count, run_goes_on}

-- the rows of what is newly accepted are sound
pub sound_rows : (rs : List Request) → list_all is_request rs ≡ true → AreSound (rows_of (accepted_from start rs)) (accepted_from start rs)
sound_rows rs all = record { rows_are = written_rows 1 (accepted_from start rs) (taken_again start rs all); all_new = accepted_again start rs }

-- ---- a desk that goes on
next_at : (rows : List Row) (s : State) (r : Request) (b : Bool) → is_new s r ≡ b → IsRunOf rows s → is_request r ≡ true → IsRunOf (rows ++ (if b then row_of (accepted_count s + 1) r ∷ [] else [])) (step s r).0
next_at rows s r true is ran taken =
    run_goes_on rows s (step s r).0 (accepted_count s + 1) (row_of (accepted_count s + 1) r) ran (ap (λ (n : ℕ). n + 1) (run_count rows s ran))
    (record { request = r; is_row = record { row_is = written_row (accepted_count s + 1) r taken; newly = is }; step_is = refl })
next_at rows s r false is ran taken =
    subst (λ (l : List Row). IsRunOf l (step s r).0) (sym (append-nil rows)) (subst (λ (t : State). IsRunOf rows t) (sym (old_stays s r is)) ran)

pub desk_next : (rows : List Row) (s : State) (r : Request) → IsRunOf rows s → is_request r ≡ true → IsRunOf (rows ++ new_rows s r) (step s r).0
unfolding new_rows
desk_next rows s r ran taken = next_at rows s r (is_new s r) refl ran taken

-- ---- rows tell their requests
pub one_list : (rows : List Row) (a b : List Request) → AreSound rows a → AreSound rows b → a ≡ b
one_list rows a b these those = are_same 1 rows a b these.rows_are those.rows_are

-- ---- one request of a list
record Cut (rs : List Request) (k : ℕ) : Type 0 where
  front : List Request
  one : Request
  rest : List Request
  is : rs ≡ front ++ one ∷ rest
  long : length front ≡ k

cut_at : (rs : List Request) (k : ℕ) → k < length rs → Cut rs k
cut_at [] k low = absurd (omega (arith, low))
cut_at (x ∷ rs) zero low = record { front = []; one = x; rest = rs; is = refl; long = refl }
cut_at (x ∷ rs) (suc k) low =
    let more = cut_at rs k (omega (arith, low)) in
    record { front = x ∷ more.front; one = more.one; rest = more.rest; is = ap (λ (l : List Request). x ∷ l) more.is; long = omega (arith, more.long) }

-- sound rows are damaged nowhere
pub never_damaged : (rows : List Row) (rs : List Request) (n : ℕ) → AreSound rows rs → AreDamaged rows n → ⊥
never_damaged rows rs n sound d =
    let many : length rows ≡ length rs = are_length 1 rows rs sound.rows_are in
    let cut = cut_at rs (n - 1) (omega (arith, d.low, d.high, many)) in
    let at = row_at 1 rows cut.front cut.one cut.rest (subst (λ (l : List Request). AreRowsFrom 1 rows l) cut.is sound.rows_are) in
    let new = front_new start cut.front cut.one cut.rest (subst (λ (l : List Request). accepted_from start l ≡ l) cut.is sound.all_new) in
    let before : AreRowsFrom 1 (take (n - 1) rows) cut.front = subst (λ (k : ℕ). AreRowsFrom 1 (take k rows) cut.front) cut.long at.before in
    let same = one_list (take (n - 1) rows) d.before cut.front d.sound (record { rows_are = before; all_new = new.0 }) in
    let there : slice_get rows (n - 1) ≡ Some at.row = ap (slice_get rows) (sym cut.long) ∙ at.there in
    let place : 1 + length cut.front ≡ n = omega (arith, cut.long, d.low) in
    d.bad at.row there cut.one (record { row_is = subst (λ (k : ℕ). IsRowOf k at.row cut.one) place at.is; newly = ap (λ (l : List Request). is_new (run l) cut.one) same ∙ new.1 })

-- ---- sound rows go on
pub sound_on : (rows : List Row) (requests more : List Request) → AreSound rows requests → list_all is_request more ≡ true
    → AreSound (rows ++ rows_from (length rows + 1) (accepted_from (run requests) more)) (requests ++ accepted_from (run requests) more)
sound_on rows requests more sound all =
    let news = accepted_from (run requests) more in
    let place : 1 + length requests ≡ length rows + 1 = omega (arith, are_length 1 rows requests sound.rows_are) in
    record {
      rows_are = are_more 1 (length rows + 1) rows requests (rows_from (length rows + 1) news) news place sound.rows_are (written_rows (length rows + 1) news (taken_again (run requests) more all));
      all_new = accepted_both start requests news ∙ ap (λ (l : List Request). l ++ accepted_from (run requests) news) sound.all_new ∙ ap (λ (l : List Request). requests ++ l) (accepted_again (run requests) more);
    }
