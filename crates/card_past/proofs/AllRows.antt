-- All rows that are left to make, one after the other.
use Rattle.std.proofs.Common.{◌≡◌, ℕ, ◌+◌, ◌≤◌, true, List, [], ◌∷◌, refl, sym, ap, ◌∙◌, subst, arith, Option}
use Rattle.std.specs.Prelude.{map}
use Rattle.std.specs.List.{All}
use Rattle.std.proofs.lemmas.List.Elements.{All-head, All-tail}
use Rattle.card_billed.proofs.Steps.{issue_days_are_breaks}
use Rattle.card_book.proofs.StepCounts.{steps_add_up}
use Rattle.card_book.specs.Stands.{Summary, breaks_of, day_to_fold, steps_over}
use Rattle.card_daily.specs.Given.{Given}
use Rattle.card_daily.specs.declared.track.Track.{Track}
use Rattle.card_events.specs.History.{anchor_of}
use Rattle.card_events.specs.Range.{last_request_day}
use Rattle.card_events.specs.SharedRows.{SharedRows}
use Rattle.card_events.specs.declared.kept.Kept.{Kept}
use Rattle.card_model.specs.CycleDays.{IsOpening}
use Rattle.card_model.specs.Cycles.{IssuedRow}
use Rattle.card_past.proofs.NextRow.{after-is}
use Rattle.card_past.proofs.Through.{same-first}
use Rattle.card_past.specs.Making.{AreLeft, AreToMake, IsMade, IsNext, folded_at, steps_on}
use Rattle.card_past.specs.Foldings.{IsWhole, Stands, day_of}
use Rattle.card_past.specs.Waiting.{given_by}
use Rattle.card_past.specs.declared.past.Past.{Past}

first-number : (x y : ℕ) (xs ys : List ℕ) → x ∷ xs ≡ y ∷ ys → x ≡ y
first-number x y xs ys e = cc

other-numbers : (x y : ℕ) (xs ys : List ℕ) → x ∷ xs ≡ y ∷ ys → xs ≡ ys
other-numbers x y xs ys e = cc

-- ---- the next of them
-- its parts, where these are the numbers
pub record HasFirst (shared : SharedRows) (history : List Kept) (all made : List IssuedRow) (x : ℕ) (xs : List ℕ) (to : ℕ) (b : Option Summary) (p : Past) : Type 0 where
  pub reached : ℕ
  pub row : IssuedRow
  pub rest : List IssuedRow
  pub left : AreLeft shared history all made (row ∷ rest) (folded_at reached b p)
  pub number : row.bill ≡ x
  pub numbers : xs ≡ map (λ r. r.bill) rest
  pub day : row.day ≤ to
  pub within : All (λ r. r.day ≤ to) rest

pub has-first : (shared : SharedRows) (history : List Kept) (all made : List IssuedRow) (x : ℕ) (xs : List ℕ) (to : ℕ) (b : Option Summary) (p : Past) → AreToMake shared history all made (x ∷ xs) to b p → HasFirst shared history all made x xs to b p
has-first shared history all made x xs to b p h = by h.rest h.left h.numbers h.within
  where
    by : (rest : List IssuedRow) → AreLeft shared history all made rest (folded_at h.reached b p) → x ∷ xs ≡ map (λ r. r.bill) rest → All (λ r. r.day ≤ to) rest → HasFirst shared history all made x xs to b p
    by [] left numbers within = let no : x ∷ xs ≡ [] = numbers in absurd (cc)
    by (r ∷ rest) left numbers within = record {
      reached = h.reached;
      row = r;
      rest = rest;
      left = left;
      number = sym (first-number x r.bill xs (map (λ (y : IssuedRow). y.bill) rest) numbers);
      numbers = other-numbers x r.bill xs (map (λ (y : IssuedRow). y.bill) rest) numbers;
      day = All-head (λ (y : IssuedRow). y.day ≤ to) r rest within;
      within = All-tail (λ (y : IssuedRow). y.day ≤ to) r rest within;
    }

pub is-next : (shared : SharedRows) (history : List Kept) (all made : List IssuedRow) (x : ℕ) (xs : List ℕ) (to : ℕ) (b : Option Summary) (p : Past) → AreToMake shared history all made (x ∷ xs) to b p → IsNext shared history all made x b p
is-next shared history all made x xs to b p h =
    let f = has-first shared history all made x xs to b p h in
    record { reached = f.reached; row = f.row; rest = f.rest; left = f.left; number = f.number }

-- ---- after it
module _ (shared : SharedRows) (history : List Kept) (all made : List IssuedRow) (x : ℕ) (xs : List ℕ) (to : ℕ) (b : Option Summary) (p : Past) (h : AreToMake shared history all made (x ∷ xs) to b p) where
  abbrev g : Given
  g = given_by history all shared

  abbrev f : HasFirst shared history all made x xs to b p
  f = has-first shared history all made x xs to b p h

  first-day : day_to_fold g (day_of b) ≡ f.reached + 1
  first-day = same-first g (given_by history made shared) (day_of b) refl ∙ f.left.folding.day

  -- the steps to its day and from there on are those of the whole
  pub steps-join : IsOpening (anchor_of history) → to ≤ last_request_day → steps_over g f.row.day (f.reached + 1) + steps_over g to (f.row.day + 1) ≡ steps_on shared history all to b
  steps-join open' last =
      let low = after-is shared history all made f.row f.rest (folded_at f.reached b p) f.left in
      let break : breaks_of g to f.row.day ≡ true = subst (λ rows. breaks_of (given_by history rows shared) to f.row.day ≡ true) (sym f.left.rows) (issue_days_are_breaks history made f.rest shared f.row to) in
      steps_add_up.join g (f.reached + 1) f.row.day to open' (omega (arith, low)) f.day last break
      ∙ ap (steps_over g to) (sym first-day)

  pub to-make-next : (new : List IssuedRow) (later : Option Summary) (past : Past) → IsMade shared history all made new f.row f.rest later past → AreToMake shared history all new xs to later past
  to-make-next new later past made' = record { reached = f.row.day; rest = f.rest; left = made'.left; numbers = f.numbers; within = f.within }

  later-day : (new : List IssuedRow) (later : Option Summary) (past : Past) → IsMade shared history all made new f.row f.rest later past → day_to_fold g (day_of later) ≡ f.row.day + 1
  later-day new later past made' = same-first g (given_by history new shared) (day_of later) refl ∙ made'.left.folding.day

  pub within-next : (new : List IssuedRow) (later : Option Summary) (past : Past) → IsMade shared history all made new f.row f.rest later past → day_to_fold g (day_of later) ≤ to + 1
  within-next new later past made' = let same = later-day new later past made' in let day = f.day in omega (arith, same, day)

  pub steps-next : IsOpening (anchor_of history) → to ≤ last_request_day → (new : List IssuedRow) (later : Option Summary) (past : Past) → IsMade shared history all made new f.row f.rest later past
      → (before after : ℕ) → after ≡ before + steps_over g f.row.day (f.reached + 1) → after + steps_on shared history all to later ≡ before + steps_on shared history all to b
  steps-next open' last new later past made' before after e =
      let whole = steps-join open' last in
      let here : steps_on shared history all to later ≡ steps_over g to (f.row.day + 1) = ap (steps_over g to) (later-day new later past made') in
      omega (arith, e, whole, here)

  pub most-next : IsOpening (anchor_of history) → to ≤ last_request_day → (before after : ℕ) → after ≤ before + steps_over g f.row.day (f.reached + 1) → after ≤ before + steps_on shared history all to b
  most-next open' last before after l = let whole = steps-join open' last in omega (arith, l, whole)

-- ---- a copy of the Book
pub copied : (shared : SharedRows) (history : List Kept) (all made : List IssuedRow) (bills : List ℕ) (to : ℕ) (b copy : Option Summary) (p : Past) → ((g : Given) (t : Track) → Stands g b t → Stands g copy t) → day_of copy ≡ day_of b → (IsWhole b → IsWhole copy)
    → AreToMake shared history all made bills to b p → AreToMake shared history all made bills to copy p
copied shared history all made bills to b copy p stands day whole h =
    let g = given_by history made shared in
    let f = h.left.folding in
    record {
      reached = h.reached;
      rest = h.rest;
      left = record {
        rows = h.left.rows;
        unmade = h.left.unmade;
        later = h.left.later;
        folding = record { day = ap (day_to_fold g) day ∙ f.day; whole = whole f.whole; stands = stands g p.track f.stands; marks = f.marks; eve = tt };
      };
      numbers = h.numbers;
      within = h.within;
    }

pub steps-copied : (shared : SharedRows) (history : List Kept) (all : List IssuedRow) (to : ℕ) (b copy : Option Summary) → day_of copy ≡ day_of b → steps_on shared history all to copy ≡ steps_on shared history all to b
steps-copied shared history all to b copy day = let g = given_by history all shared in ap (λ o. steps_over g to (day_to_fold g o)) day
