-- Sound rows.
use Rattle.std.proofs.Common.{◌≡◌, ℕ, ◌+◌, ◌-◌, ◌<◌, Bool, List, [], ◌∷◌, ◌++◌, length, take, get_or, Option, Some, None, refl, ap, sym, ◌∙◌, subst, arith}
use Rattle.std.specs.Prelude.{if◌then◌else◌, slice_get}
use Rattle.std.proofs.lemmas.List.{length-take-le, take_more}
use Rattle.card_events.specs.declared.request.Request.{Request}
use Rattle.card_ports.specs.Rows.{KeepsRows, SameRowsTold, GivesRows, next_seq}
use Rattle.card_ports.specs.declared.row.Row.{Row}
use Rattle.card_model.specs.Machine.{State, start, step, run, run_from, is_new, accepted_from}
use Rattle.card_desk.specs.Kept.{AreSound, AreDamaged, AreRowsFrom, IsNewRow, IsRunOf, Fits, accepted_count}
use Rattle.card_desk.proofs.MixedRows.{are_length, are_more, are_next, one_row}
use Rattle.card_desk.specs.Loads.{GoesOn}
use Rattle.card_desk.proofs.RunLemmas.{run_more, accepted_more, count_all}

-- no row
pub sound_none : AreSound [] []
unfolding AreRowsFrom accepted_from
sound_none = record { rows_are = tt; all_new = refl }

pub run_none : IsRunOf [] start
unfolding run_from
run_none = record { requests = []; sound = sound_none; state_is = refl }

-- the rows are as many as the accepted requests
pub sound_count : (rows : List Row) (rs : List Request) → AreSound rows rs → accepted_count (run rs) ≡ length rows
sound_count rows rs sound = count_all rs sound.all_new ∙ sym (are_length 1 rows rs sound.rows_are)

pub run_count : (rows : List Row) (s : State) → IsRunOf rows s → accepted_count s ≡ length rows
run_count rows s is = ap accepted_count is.state_is ∙ sound_count rows is.requests is.sound

-- one row more
pub sound_more : (rows : List Row) (rs : List Request) (n : ℕ) (row : Row) (r : Request) → AreSound rows rs → n ≡ length rows + 1 → IsNewRow (run rs) n row r → AreSound (rows ++ row ∷ []) (rs ++ r ∷ [])
sound_more rows rs n row r sound place new =
    let many : 1 + length rs ≡ n = omega (arith, place, are_length 1 rows rs sound.rows_are) in
    record {
      rows_are = are_more 1 n rows rs (row ∷ []) (r ∷ []) many sound.rows_are (one_row n row r new.row_is);
      all_new = accepted_more start rs r ∙ ap (λ (l : List Request). l ++ (if is_new (run rs) r then r ∷ [] else [])) sound.all_new ∙ ap (λ (b : Bool). rs ++ (if b then r ∷ [] else [])) new.newly;
    }

pub run_goes_on : (rows : List Row) (s next : State) (n : ℕ) (row : Row) → IsRunOf rows s → n ≡ length rows + 1 → GoesOn s n row next → IsRunOf (rows ++ row ∷ []) next
run_goes_on rows s next n row is place more = record {
  requests = is.requests ++ more.request ∷ [];
  sound = sound_more rows is.requests n row more.request is.sound place (subst (λ (t : State). IsNewRow t n row more.request) is.state_is more.is_row);
  state_is = more.step_is ∙ ap (λ (t : State). (step t more.request).0) is.state_is ∙ sym (run_more start is.requests more.request);
}

-- the same of the rows up to a place
pub run_next : (rows : List Row) (i n : ℕ) (s next : State) (row : Row) → i < length rows → row ≡ get_or rows i row → n ≡ i + 1 → IsRunOf (take i rows) s → GoesOn s n row next → IsRunOf (take (i + 1) rows) next
run_next rows i n s next row low is place ran more =
    let long : length (take i rows) ≡ i = length-take-le i rows (omega (arith, low)) in
    let all : take (i + 1) rows ≡ take i rows ++ row ∷ [] = take_more rows i row low ∙ ap (λ (x : Row). take i rows ++ x ∷ []) (sym is) in
    subst (λ (l : List Row). IsRunOf l next) (sym all) (run_goes_on (take i rows) s next n row ran (place ∙ ap (λ (m : ℕ). m + 1) (sym long)) more)

-- the first row that isn't the next one
pub damaged : (rows : List Row) (s : State) (i n : ℕ) (row : Row) → i < length rows → n ≡ i + 1 → IsRunOf (take i rows) s → slice_get rows i ≡ Some row → ((r : Request) → IsNewRow s n row r → ⊥) → AreDamaged rows n
damaged rows s i n row low place is there bad =
    let at : n - 1 ≡ i = omega (arith, place) in
    record {
      low = omega (arith, place);
      high = omega (arith, place, low);
      before = is.requests;
      sound = subst (λ (m : ℕ). AreSound (take m rows) is.requests) (sym at) is.sound;
      bad = λ other got r new.
          let same : row ≡ other = the_row row other (sym there ∙ ap (slice_get rows) (sym at) ∙ got) in
          bad r (subst (λ (x : Row). IsNewRow s n x r) (sym same) (subst (λ (t : State). IsNewRow t n other r) (sym is.state_is) new));
    }
  where
    the_row : (a b : Row) → Some a ≡ Some b → a ≡ b
    the_row a b is = cc

-- ---- numbers
pub run_fits : (rows : List Row) (s : State) → IsRunOf rows s → next_seq rows ≡ accepted_count s + 1
run_fits rows s is =
    omega (arith, are_next 1 rows is.requests is.sound.rows_are, ap accepted_count is.state_is, count_all is.requests is.sound.all_new)

-- the same of what a keeper tells
pub fits_told : (old new : Option (List Row)) (given : List Row) (s : State) → KeepsRows old new → SameRowsTold old new → GivesRows old given → IsRunOf given s → Fits new s
fits_told None None given s kept told gives is = tt
fits_told None (Some new) given s kept told gives is = absurd (cc)
fits_told (Some old) None given s kept told gives is = absurd kept
fits_told (Some old) (Some new) given s kept told gives is = ap next_seq (kept ∙ sym gives) ∙ run_fits given s is
