-- What a sheet shows with rows that aren't made, and without them.
use Rattle.std.proofs.Common.{◌≡◌, ℕ, ◌-◌, ◌≤◌, Bool, true, false, cond, eqb, List, [], ◌∷◌, ◌++◌, append-nil, append_assoc, refl, sym, ap, ◌∙◌, arith, Some, None, ℤ, ◌-ℤ◌}
use Rattle.std.specs.Prelude.{nat_lt}
use Rattle.std.specs.List.{All, filter}
use Rattle.std.specs.Option.{option_map_or}
use Rattle.std.proofs.lemmas.Bool.{eqb-true}
use Rattle.std.proofs.lemmas.Bool.Decides.{nat_tests}
use Rattle.std.proofs.lemmas.List.Elements.{All-cons, All-head, All-nil, All-tail}
use Rattle.card_events.specs.Billing.{closing}
use Rattle.card_events.specs.History.{anchor_of}
use Rattle.card_events.specs.SharedRows.{FeeRow, SharedRows}
use Rattle.card_events.specs.declared.kept.Kept.{Kept}
use Rattle.card_model.specs.Books.{Account, Book, account_of}
use Rattle.card_model.specs.Caps.{row_for}
use Rattle.card_model.specs.Closing.{previous_of}
use Rattle.card_model.specs.Cycles.{Cycle, IssuedRow, Seen, Sheet, seen_on}
use Rattle.card_model.specs.Folds.{book, cycle_at}
use Rattle.card_model.specs.Sheets.{previous_balance, sheet_in, sheet_of}
use Rattle.card_billed.proofs.Late.{cycle-later, unmade_rows_change_no_past_day}
use Rattle.card_billed.specs.Laws.{UnmadeRowsLeaveSheets}
use Rattle.card_billed.specs.Unmade.{AreUnmade, IsUnmade}

-- ---- the balance before, by the row of a cycle
abbrev stated : ℕ → List IssuedRow → ℤ → ℤ
stated k rows owed = option_map_or (λ r. r.statement.new_balance) (row_for k rows) owed

-- a row that says what was owed changes nothing
stated-more : (k : ℕ) (made : List IssuedRow) (r : IssuedRow) (owed : ℤ) → (r.cycle ≡ k → r.statement.new_balance ≡ owed) → stated k (made ++ r ∷ []) owed ≡ stated k made owed
unfolding row_for
stated-more k [] r owed says = by (eqb r.cycle k) refl
  where
    by : (t : Bool) → eqb r.cycle k ≡ t → option_map_or (λ (x : IssuedRow). x.statement.new_balance) (cond t (Some r) None) owed ≡ owed
    by true e = says (eqb-true r.cycle k e)
    by false e = refl
stated-more k (x ∷ made) r owed says = by (eqb x.cycle k) (stated-more k made r owed says)
  where
    by : (t : Bool) → stated k (made ++ r ∷ []) owed ≡ stated k made owed
        → option_map_or (λ (y : IssuedRow). y.statement.new_balance) (cond t (Some x) (row_for k (made ++ r ∷ []))) owed ≡ option_map_or (λ (y : IssuedRow). y.statement.new_balance) (cond t (Some x) (row_for k made)) owed
    by true e = refl
    by false e = e

module _ (history : List Kept) (shared : SharedRows) (k day : ℕ) (owed : ℤ) (early : closing (anchor_of history) k ≤ day) where
  -- what was owed at the closing before
  abbrev GoesOn : List IssuedRow → Type 0
  GoesOn made = owed ≡ previous_of (cycle_at k (book history made shared day).cycles)

  -- which is what a row of that cycle says
  says-so : (made : List IssuedRow) (r : IssuedRow) → IsUnmade history made shared r → GoesOn made → r.cycle ≡ k → r.statement.new_balance ≡ owed
  says-so made r h goes is =
      let low : closing (anchor_of history) r.cycle ≤ day = rw is early in
      let there = cycle-later history made shared (closing (anchor_of history) r.cycle) day r.cycle r.statement low h.statement in
      sym (ap previous_of (ap (λ n. cycle_at n (book history made shared day).cycles) (sym is) ∙ there)) ∙ sym goes

  stated-same : (made rest : List IssuedRow) → AreUnmade history made shared rest → All (λ r. day ≤ r.day) rest → GoesOn made → stated k (made ++ rest) owed ≡ stated k made owed
  unfolding AreUnmade
  stated-same made [] h later goes = ap (λ rows. stated k rows owed) (append-nil made)
  stated-same made (r ∷ rest) h later goes =
      let P : IssuedRow → Type 0 = λ x. day ≤ x.day in
      let books = unmade_rows_change_no_past_day history made (r ∷ []) shared day (h.0, tt) (All-cons P r [] (All-head P r rest later) (All-nil P)) in
      ap (λ rows. stated k rows owed) (sym (append_assoc made (r ∷ []) rest))
      ∙ (stated-same (made ++ r ∷ []) rest h.1 (All-tail P r rest later) (goes ∙ ap (λ (b : Book). previous_of (cycle_at k b.cycles)) (sym books))
      ∙ stated-more k made r owed (says-so made r h.0 goes))

-- ---- what is seen of the rows on a day
none-earlier : (day : ℕ) (made rest : List IssuedRow) → All (λ r. day ≤ r.day) rest → filter (λ r. nat_lt r.day day) (made ++ rest) ≡ filter (λ r. nat_lt r.day day) made
none-earlier day [] [] later = refl
none-earlier day [] (r ∷ rest) later =
    let low = All-head (λ (x : IssuedRow). day ≤ x.day) r rest later in
    let behind : nat_lt r.day day ≡ false = grind (arith, nat_tests) in
    rw behind (none-earlier day [] rest (All-tail (λ (x : IssuedRow). day ≤ x.day) r rest later))
none-earlier day (x ∷ made) rest later = ap (λ rows. cond (nat_lt x.day day) (x ∷ rows) rows) (none-earlier day made rest later)

-- ---- the sheet, by the balance before
sheet-with : Account → Seen → List FeeRow → List IssuedRow → ℕ → Cycle → Book → ℤ → Sheet
sheet-with a seen fees rows issue c b previous = record (sheet_in a seen fees rows issue c b) { previous = previous; corrections = c.previous -ℤ previous }

sheet-is : (a : Account) (seen : Seen) (fees : List FeeRow) (made other : List IssuedRow) (issue : ℕ) (c : Cycle) (b : Book) → sheet_in a seen fees other issue c b ≡ sheet-with a seen fees made issue c b (previous_balance other c)
unfolding sheet_in sheet-with
sheet-is a seen fees made other issue c b = refl

pub unmade_rows_leave_sheets : UnmadeRowsLeaveSheets
unfolding sheet_of
unmade_rows_leave_sheets history made rest shared issue c h later early goes =
    let a = account_of history in
    let all = made ++ rest in
    let seen : List IssuedRow → Seen = λ rows. seen_on (anchor_of history) shared history rows c.closing in
    let books = unmade_rows_change_no_past_day history made rest shared c.closing h later in
    let previous : previous_balance all c ≡ previous_balance made c = stated-same history shared (c.number - 1) c.closing c.previous early made rest h later goes in
    ap (λ b. sheet_in a (seen all) shared.fees all issue c b) books
    ∙ (ap (λ rows. sheet_in a (record (seen made) { issued = rows }) shared.fees all issue c (book history made shared c.closing)) (none-earlier c.closing made rest later)
    ∙ (sheet-is a (seen made) shared.fees made all issue c (book history made shared c.closing)
    ∙ (ap (sheet-with a (seen made) shared.fees made issue c (book history made shared c.closing)) previous
    ∙ sym (sheet-is a (seen made) shared.fees made made issue c (book history made shared c.closing)))))
