-- The row in force, found from the front.
use Rattle.std.proofs.Common.{◌≡◌, ℕ, ◌+◌, take, length, get_or, ◌<◌, Bool, true, false, cond, nat_lt, nat_le, List, [], ◌∷◌, ◌++◌, Option, Some, None, refl, sym, ap, ◌∙◌, arith}
use Rattle.std.specs.List.{filter}
use Rattle.std.specs.Option.{option_map}
use Rattle.std.proofs.lemmas.Bool.Decides.{nat_tests}
use Rattle.std.proofs.lemmas.List.Elements.{filter-append}
use Rattle.std.proofs.lemmas.List.{append-nil, map-append, take_more}
use Rattle.card_events.specs.SharedRows.{FeeRow}
use Rattle.card_model.specs.Fees.{later_row, row_in_force, row_on}
use Rattle.card_shared.specs.Rows.{fee_row, fee_rows, later_of, latest}
use Rattle.card_shared.specs.declared.table.Row.{Row}

-- a row behind those before it
abbrev pick : Option FeeRow → FeeRow → FeeRow
pick None r = r
pick (Some t) r = cond (nat_lt r.day t.day) t r

row-more : (xs : List FeeRow) (r : FeeRow) → row_in_force (xs ++ r ∷ []) ≡ Some (pick (row_in_force xs) r)
row-more [] r = refl
row-more (x ∷ xs) r = ap (λ t. Some (later_row x t)) (row-more xs r) ∙ at (row_in_force xs)
  where
    four : (t : FeeRow) (b c d : Bool) → nat_lt r.day t.day ≡ b → nat_lt t.day x.day ≡ c → nat_lt r.day x.day ≡ d → later_row x (Some (cond b t r)) ≡ pick (Some (cond c x t)) r
    four t true true true e f g = rw (f, g) refl
    four t true true false e f g = let no : nat_lt r.day x.day ≡ true = grind (arith, nat_tests) in absurd (cc)
    four t true false d e f g = rw (f, e) refl
    four t false true d e f g = refl
    four t false false true e f g = let no : nat_lt r.day x.day ≡ false = grind (arith, nat_tests) in absurd (cc)
    four t false false false e f g = rw (g, e) refl

    at : (found : Option FeeRow) → Some (later_row x (Some (pick found r))) ≡ Some (pick (Some (later_row x found)) r)
    at None = refl
    at (Some t) = ap Some (four t (nat_lt r.day t.day) (nat_lt t.day x.day) (nat_lt r.day x.day) refl refl refl)

pub row-step : (day : ℕ) (found : Option Row) (rows : List Row) (r : Row) → option_map fee_row found ≡ row_on (fee_rows rows) day → option_map fee_row (latest day found r) ≡ row_on (fee_rows (rows ++ r ∷ [])) day
row-step day found rows r h = at (nat_lt day r.day) (nat_le r.day day) refl refl ∙ sym whole
  where
    kept : List FeeRow
    kept = filter (λ t. nat_le t.day day) (fee_rows rows)

    whole : row_on (fee_rows (rows ++ r ∷ [])) day ≡ row_in_force (kept ++ cond (nat_le r.day day) (fee_row r ∷ []) [])
    whole = ap (λ l. row_in_force (filter (λ t. nat_le t.day day) l)) (map-append fee_row rows (r ∷ [])) ∙ ap row_in_force (filter-append (λ t. nat_le t.day day) (fee_rows rows) (fee_row r ∷ []))

    chosen : (found : Option Row) → fee_row (later_of found r) ≡ pick (option_map fee_row found) (fee_row r)
    chosen None = refl
    chosen (Some o) = by (nat_lt r.day o.day)
      where
        by : (b : Bool) → fee_row (cond b o r) ≡ cond b (fee_row o) (fee_row r)
        by true = refl
        by false = refl

    at : (b c : Bool) → nat_lt day r.day ≡ b → nat_le r.day day ≡ c → option_map fee_row (cond b found (Some (later_of found r))) ≡ row_in_force (kept ++ cond c (fee_row r ∷ []) [])
    at true true e f = let no : nat_le r.day day ≡ false = grind (arith, nat_tests) in absurd (cc)
    at true false e f = h ∙ ap row_in_force (sym (append-nil kept))
    at false true e f = ap Some (chosen found ∙ ap (λ t. pick t (fee_row r)) h) ∙ sym (row-more kept (fee_row r))
    at false false e f = let no : nat_le r.day day ≡ true = grind (arith, nat_tests) in absurd (cc)

pub found-more : (day : ℕ) (found : Option Row) (rows : List Row) (i : ℕ) (r : Row) → i < length rows → r ≡ get_or rows i r → option_map fee_row found ≡ row_on (fee_rows (take i rows)) day → option_map fee_row (latest day found r) ≡ row_on (fee_rows (take (i + 1) rows)) day
found-more day found rows i r l e h = row-step day found (take i rows) r h ∙ ap (λ t. row_on (fee_rows t) day) (ap (λ x. take i rows ++ x ∷ []) e ∙ sym (take_more rows i r l))
