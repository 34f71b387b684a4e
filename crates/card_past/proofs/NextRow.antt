-- The next row to make, and what is left behind it.
use Rattle.std.proofs.Common.{◌≡◌, ℕ, ◌+◌, ◌≤◌, List, [], ◌∷◌, ◌++◌, append_assoc, sym, ap, ◌∙◌, subst, arith, Option, Some, None}
use Rattle.std.specs.List.{All}
use Rattle.std.proofs.lemmas.List.Elements.{All-cons, All-nil, All-weaker}
use Rattle.card_billed.proofs.Late.{rows_are_made_late}
use Rattle.card_billed.proofs.Steps.{steps_to_the_first}
use Rattle.card_billed.specs.Unmade.{AreUnmade, IsUnmade}
use Rattle.card_book.specs.Stands.{day_to_fold, steps_over}
use Rattle.card_daily.specs.Given.{Given, IsSound, book_on}
use Rattle.card_events.specs.Range.{last_calendar_day, last_request_day}
use Rattle.card_events.specs.History.{anchor_of, at_number}
use Rattle.card_events.specs.SharedRows.{SharedRows}
use Rattle.card_events.specs.declared.kept.Kept.{Kept}
use Rattle.card_events.specs.declared.post.Post.TheVariants as post
use Rattle.card_model.specs.CycleDays.{IsOpening}
use Rattle.card_model.specs.Cycles.{IssuedRow}
use Rattle.card_reasons.proofs.ClosingLemmas.{grown}
use Rattle.card_past.proofs.Through.{cycles-through}
use Rattle.card_past.proofs.Waiting.{front-sound, unmade_rows_leave_it}
use Rattle.card_past.specs.Rows.{issued_from}
use Rattle.card_past.specs.Making.{AreLeft, IsMade, folded_at}
use Rattle.card_past.specs.Owes.{AreLater}
use Rattle.card_past.specs.Foldings.{Folding, FoldsOn, IsFolding, day_of}
use Rattle.card_past.specs.Waiting.{given_by}
use Rattle.card_past.specs.declared.past.Past.{Past}
use Rattle.card_book.specs.Stands.{Summary}

-- ---- rows of later days
record IsLater (opened day : ℕ) (r : IssuedRow) (rest : List IssuedRow) : Type 0 where
  pub after : day ≤ r.day
  pub begun : opened ≤ r.day
  pub last : r.day ≤ last_request_day
  pub others : AreLater opened r.day rest

first-later : (opened day : ℕ) (r : IssuedRow) (rest : List IssuedRow) → AreLater opened day (r ∷ rest) → IsLater opened day r rest
unfolding AreLater
first-later opened day r rest h = record { after = h.0; begun = h.1; last = h.2; others = h.3 }

pub all-later : (opened day : ℕ) (rest : List IssuedRow) → AreLater opened day rest → All (λ r. day ≤ r.day) rest
all-later opened day [] h = All-nil (λ (r : IssuedRow). day ≤ r.day)
all-later opened day (r ∷ rest) h =
    let is = first-later opened day r rest h in
    let low = is.after in
    All-cons (λ (x : IssuedRow). day ≤ x.day) r rest is.after (All-weaker (λ (x : IssuedRow). r.day ≤ x.day) (λ (x : IssuedRow). day ≤ x.day) (λ x l. omega (arith, l, low)) rest (all-later opened r.day rest is.others))

first-unmade : (history : List Kept) (made : List IssuedRow) (shared : SharedRows) (r : IssuedRow) (rest : List IssuedRow) → AreUnmade history made shared (r ∷ rest) → IsUnmade history made shared r
unfolding AreUnmade
first-unmade history made shared r rest h = h.0

others-unmade : (history : List Kept) (made : List IssuedRow) (shared : SharedRows) (r : IssuedRow) (rest : List IssuedRow) → AreUnmade history made shared (r ∷ rest) → AreUnmade history (made ++ r ∷ []) shared rest
unfolding AreUnmade
others-unmade history made shared r rest h = h.1

one-unmade : (history : List Kept) (made : List IssuedRow) (shared : SharedRows) (r : IssuedRow) → IsUnmade history made shared r → AreUnmade history made shared (r ∷ [])
unfolding AreUnmade
one-unmade history made shared r h = (h, tt)

same-post : (o : Option Kept) (k b : Kept) → o ≡ Some k → o ≡ Some b → k ≡ b
same-post o k b e f = cc

-- it isn't of an earlier day than the last that is folded
pub after-is : (shared : SharedRows) (history : List Kept) (all made : List IssuedRow) (r : IssuedRow) (rest : List IssuedRow) (f : Folding) → AreLeft shared history all made (r ∷ rest) f → f.reached ≤ r.day
after-is shared history all made r rest f left = (first-later (anchor_of history).opened f.reached r rest left.later).after

-- its Bill is there
pub bill-there : (shared : SharedRows) (history : List Kept) (all made : List IssuedRow) (bill : ℕ) (r : IssuedRow) (rest : List IssuedRow) (f : Folding) → AreLeft shared history all made (r ∷ rest) f → r.bill ≡ bill → (o : Option Kept) → o ≡ at_number bill history → o ≡ None → ⊥
bill-there shared history all made bill r rest f left number o is none =
    let row = first-unmade history made shared r rest left.unmade in
    let there = row.there in
    let at : o ≡ Some row.bill = is ∙ (ap (λ n. at_number n history) (sym number) ∙ there) in
    let no : None ≡ Some row.bill = sym none ∙ at in
    absurd (cc)

-- the made rows are what the fold may be given
pub made-sound : (shared : SharedRows) (history : List Kept) (all made rest : List IssuedRow) (f : Folding) → AreLeft shared history all made rest f → IsSound (given_by history all shared) → IsSound (given_by history made shared)
made-sound shared history all made rest f left sound = front-sound history made rest shared (subst (λ rows. IsSound (given_by history rows shared)) left.rows sound)

-- ---- the next row
module _ (shared : SharedRows) (history : List Kept) (all made : List IssuedRow) (bill reached : ℕ) (r : IssuedRow) (rest : List IssuedRow) (b : Option Summary) (p : Past)
    (left : AreLeft shared history all made (r ∷ rest) (folded_at reached b p)) (number : r.bill ≡ bill) (k : Kept) (there : at_number bill history ≡ Some k) where
  abbrev g : Given
  g = given_by history made shared

  row : IsUnmade history made shared r
  row = first-unmade history made shared r rest left.unmade

  days : IsLater (anchor_of history).opened reached r rest
  days = first-later (anchor_of history).opened reached r rest left.later

  -- its Bill
  post-is : k ≡ row.bill
  post-is = same-post (at_number bill history) k row.bill there (ap (λ n. at_number n history) (sym number) ∙ row.there)

  pub next-day : k.accepted ≡ r.day
  next-day = ap (λ (x : Kept). x.accepted) post-is ∙ row.day

  pub next-post : k.post ≡ post.Bill r.cycle
  next-post = ap (λ (x : Kept). x.post) post-is ∙ row.post

  -- the fold to its day
  pub folds-next : FoldsOn g k.accepted b p
  folds-next =
      let low = days.after in
      let first = days.begun in
      let last = days.last in
      let at = next-day in
      record { reached = reached; folding = left.folding; opened = omega (arith, first, at); later = omega (arith, low, at); last = omega (arith, last, at) }

  pub next-small : (cycle : ℕ) → k.post ≡ post.Bill cycle → cycle ≤ last_calendar_day
  next-small cycle e =
      let same : cycle ≡ r.cycle = (let f = next-post in cc) in
      let closed = row.closed in
      let last = days.last in
      let low = grown (anchor_of history) r.cycle in
      omega (arith, same, closed, last, low)

  -- what it issues is this row
  pub next-row : (later : Option Summary) (past : Past) (rows : List IssuedRow) → IsFolding g (folded_at k.accepted later past) → rows ≡ issued_from g past.track.cycles.items bill k.accepted k.post → rows ≡ r ∷ []
  next-row later past rows folding is =
      let closed = row.closed in
      let cycles = cycles-through g later past.track k.accepted folding.stands folding.day in
      is
      ∙ (ap (issued_from g past.track.cycles.items bill k.accepted) next-post
      ∙ (ap (λ n. issued_from g past.track.cycles.items n k.accepted (post.Bill r.cycle)) (sym number)
      ∙ (ap (λ cs. issued_from g cs r.bill k.accepted (post.Bill r.cycle)) cycles
      ∙ (ap (λ d. issued_from g (book_on g d).cycles r.bill d (post.Bill r.cycle)) next-day ∙ rows_are_made_late history made shared r r.day row (omega (arith, closed))))))

  -- what is left behind it
  pub next-made : IsOpening (anchor_of history) → (later : Option Summary) (past : Past) (new : List IssuedRow) → IsFolding g (folded_at k.accepted later past) → new ≡ made ++ r ∷ [] → IsMade shared history all made new r rest later past
  next-made open' later past new folding is =
      let alone = subst (λ d. IsFolding g (folded_at d later past)) next-day folding in
      let with = (unmade_rows_leave_it history made (r ∷ []) shared (folded_at r.day later past) open' (one-unmade history made shared r row)
      (All-cons (λ (x : IssuedRow). r.day ≤ x.day) r [] (omega arith) (All-nil (λ (x : IssuedRow). r.day ≤ x.day)))).with_them alone in
      record {
        rows = is;
        left = subst (λ rows. AreLeft shared history all rows rest (folded_at r.day later past)) (sym is)
            (record {
              rows = left.rows ∙ sym (append_assoc made (r ∷ []) rest);
              unmade = others-unmade history made shared r rest left.unmade;
              later = days.others;
              folding = with;
            });
      }

  -- and the steps are those of a fold over all rows
  pub next-steps : steps_over g k.accepted (day_to_fold g (day_of b)) ≡ steps_over (given_by history all shared) r.day (reached + 1)
  next-steps =
      ap (λ n. steps_over g k.accepted n) left.folding.day
      ∙ (ap (λ d. steps_over g d (reached + 1)) next-day
      ∙ (steps_to_the_first history made rest shared r (reached + 1) left.unmade
      (All-cons (λ (x : IssuedRow). r.day ≤ x.day) r rest (omega arith) (all-later (anchor_of history).opened r.day rest days.others))
      ∙ ap (λ rows. steps_over (given_by history rows shared) r.day (reached + 1)) (sym left.rows)))
