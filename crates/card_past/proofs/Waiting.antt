-- Rows that aren't made yet, and the folding up to the day of the first of them.
use Rattle.std.proofs.Common.{◌≡◌, ℕ, ◌+◌, ◌<◌, ◌≤◌, List, [], ◌∷◌, ◌++◌, append-nil, refl, sym, ap, ◌∙◌, subst, arith, length, take, Some}
use Rattle.std.specs.Prelude.{IfSome}
use Rattle.std.specs.List.{All}
use Rattle.std.specs.List.Sorted.{IsNonDecreasingBy}
use Rattle.std.proofs.Math.Seq.{take-append_seam}
use Rattle.std.proofs.lemmas.List.Elements.{All-cons, All-head, All-nil, All-tail, All-weaker}
use Rattle.std.proofs.lemmas.List.Sorted.{IsNonDecreasingBy-take}
use Rattle.card_billed.proofs.Fronts.{fronts_are_accepted}
use Rattle.card_billed.proofs.Late.{unmade_rows_change_no_past_day}
use Rattle.card_billed.proofs.Steps.{issue_days_are_breaks, steps_to_the_first}
use Rattle.card_billed.specs.Unmade.{AreUnmade}
use Rattle.card_events.specs.Billing.{closing}
use Rattle.card_events.specs.History.{anchor_of}
use Rattle.card_events.specs.SharedRows.{SharedRows}
use Rattle.card_events.specs.declared.kept.Kept.{Kept}
use Rattle.card_model.specs.CycleDays.{IsOpening}
use Rattle.card_model.specs.Cycles.{IssuedRow}
use Rattle.card_model.specs.Folds.{book}
use Rattle.card_model.specs.Laws.{HistoriesAgree}
use Rattle.card_book.proofs.MarksGoOn.{marks_go_on}
use Rattle.card_book.proofs.StepCounts.{steps_add_up}
use Rattle.card_book.specs.GoingOn.{Continues}
use Rattle.card_book.specs.Stands.{steps_over}
use Rattle.card_daily.specs.Given.{IsSound}
use Rattle.card_past.proofs.Eves.{eve-goes-on, eve_folding, if-some}
use Rattle.card_past.proofs.Through.{closed-in, continues-through, same-first, stands-on}
use Rattle.card_past.specs.Foldings.{Folding, IsEve, IsFolding, day_of}
use Rattle.card_past.specs.Waiting.{StepsAreThoseOfAll, UnmadeRowsLeaveIt, given_by}

-- ---- other rows, where the books are the same
same-posts : (day : ℕ) (shared : SharedRows) (history : List Kept) → HistoriesAgree day shared shared history history
same-posts day shared history = record { anchor = refl; terms = refl; variable = refl; posts = refl; fees = refl; index = λ follows. refl }

some-is : (x y : ℕ) → Some x ≡ Some y → x ≡ y
some-is x y e = cc

goes-on : (history : List Kept) (rows other : List IssuedRow) (shared : SharedRows) (day : ℕ) → ((x : ℕ) → x ≤ day → book history other shared x ≡ book history rows shared x)
    → Continues (given_by history rows shared) (given_by history other shared) (Some day)
goes-on history rows other shared day same = record {
  anchor = refl;
  terms = refl;
  variable = refl;
  agree = λ d e. same-posts d shared history;
  books = λ d x e l. same x (subst (λ y. x ≤ y) (sym (some-is day d e)) l);
}

-- a folding of a day up to this one
rows-on : (history : List Kept) (rows other : List IssuedRow) (shared : SharedRows) (f : Folding) → IsOpening (anchor_of history) → ((x : ℕ) → x ≤ f.reached → book history other shared x ≡ book history rows shared x)
    → IfSome f.eve (IsEve (given_by history other shared) f.reached f.past) → IsFolding (given_by history rows shared) f → IsFolding (given_by history other shared) f
rows-on history rows other shared f open' same stood h =
    let was = given_by history rows shared in
    let now = given_by history other shared in
    record {
      day = same-first now was (day_of f.book) refl ∙ h.day;
      whole = h.whole;
      stands = stands-on was now f.book f.past.track open' h.stands (continues-through was now (day_of f.book) f.reached h.day (goes-on history rows other shared f.reached same)) (record { rates = λ penalties. refl; segments = refl });
      marks = marks_go_on was now f.past.track.cycles.items f.past.since.items f.past.accrued.items
          (record {
            new = [];
            history = sym (append-nil history);
            anchor = refl;
            terms = refl;
            continues = λ k c at. goes-on history rows other shared c.closing (λ x l. let early = closed-in was f k c h at in same x (omega (arith, l, early)));
          })
          h.marks;
      eve = stood;
    }

pub other-rows : (history : List Kept) (rows other : List IssuedRow) (shared : SharedRows) (f : Folding) → IsOpening (anchor_of history) → ((x : ℕ) → x ≤ f.reached → book history other shared x ≡ book history rows shared x)
    → IsFolding (given_by history rows shared) f → IsFolding (given_by history other shared) f
other-rows history rows other shared f open' same h =
    rows-on history rows other shared f open' same
    (if-some f.eve (IsEve (given_by history rows shared) f.reached f.past) (IsEve (given_by history other shared) f.reached f.past)
    (λ e stood.
    let low = stood.earlier in
    eve-goes-on (given_by history rows shared) (given_by history other shared) f.reached f.past e stood refl
    (λ front is stands. rows-on history rows other shared (eve_folding e front) open' (λ x l. same x (omega (arith, l, low))) tt stands)) h.eve)
    h

-- ---- with the rows that aren't made, and without them
same-books : (history : List Kept) (made rest : List IssuedRow) (shared : SharedRows) (reached x : ℕ) → AreUnmade history made shared rest → All (λ r. reached ≤ r.day) rest → x ≤ reached
    → book history (made ++ rest) shared x ≡ book history made shared x
same-books history made rest shared reached x h later l =
    unmade_rows_change_no_past_day history made rest shared x h (All-weaker (λ (r : IssuedRow). reached ≤ r.day) (λ (r : IssuedRow). x ≤ r.day) (λ r m. omega (arith, l, m)) rest later)

pub unmade_rows_leave_it : UnmadeRowsLeaveIt
unmade_rows_leave_it history made rest shared f open' h later = record {
  without = other-rows history (made ++ rest) made shared f open' (λ x l. sym (same-books history made rest shared f.reached x h later l));
  with_them = other-rows history made (made ++ rest) shared f open' (λ x l. same-books history made rest shared f.reached x h later l);
}

-- ---- steps
pub steps_are_those_of_all : StepsAreThoseOfAll
steps_are_those_of_all history made rest shared r first to open' h later low within last =
    let all = given_by history (made ++ r ∷ rest) shared in
    ap (λ n. n + steps_over all to (r.day + 1)) (steps_to_the_first history made rest shared r first h later)
    ∙ steps_add_up.join all first r.day to open' low within last (issue_days_are_breaks history made rest shared r to)

-- ---- what every run leaves
all-front : (P : IssuedRow → Type 0) (xs ys : List IssuedRow) → All P (xs ++ ys) → All P xs
all-front P [] ys h = All-nil P
all-front P (x ∷ xs) ys h = All-cons P x xs (All-head P x (xs ++ ys) h) (all-front P xs ys (All-tail P x (xs ++ ys) h))

front-is : {A : Type 0} (xs ys : List A) → take (length xs) (xs ++ ys) ≡ xs
front-is xs ys = take-append_seam xs ys

pub front-sound : (history : List Kept) (made rest : List IssuedRow) (shared : SharedRows) → IsSound (given_by history (made ++ rest) shared) → IsSound (given_by history made shared)
front-sound history made rest shared h = record {
  accepted = fronts_are_accepted history made rest h.accepted;
  fees = h.fees;
  segments = h.segments;
  dated = h.dated;
  opening = h.opening;
  plans = h.plans;
  returns = h.returns;
  in_turn = record {
    accepted = h.in_turn.accepted;
    billed = h.in_turn.billed;
    issued = subst (IsNonDecreasingBy (λ (r : IssuedRow). r.day)) (front-is made rest) (IsNonDecreasingBy-take (λ (r : IssuedRow). r.day) (length made) (made ++ rest) h.in_turn.issued);
    later = all-front (λ (r : IssuedRow). closing (anchor_of history) r.cycle < r.day) made rest h.in_turn.later;
  };
}
