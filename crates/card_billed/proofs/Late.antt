-- A row that is made late is the row that was issued.
use Rattle.std.proofs.Common.{◌≡◌, ℕ, zero, suc, ◌+◌, ◌-◌, ◌<◌, ◌≤◌, List, [], ◌∷◌, ◌++◌, length, take, refl, sym, ap, ◌∙◌, subst, arith, Option, Some, None, append_assoc}
use Rattle.std.specs.Prelude.{slice_get}
use Rattle.std.proofs.lemmas.List.{append-nil}
use Rattle.std.proofs.lemmas.List.Elements.{All-head, All-tail}
use Rattle.card_events.specs.Billing.{closing}
use Rattle.card_events.specs.declared.anchor.Anchor.{Anchor}
use Rattle.card_events.specs.Range.{last_calendar_day}
use Rattle.card_events.specs.History.{anchor_of, at_number}
use Rattle.card_events.specs.SharedRows.{SharedRows}
use Rattle.card_events.specs.declared.kept.Kept.{Kept}
use Rattle.card_model.specs.Books.{Book, account_of}
use Rattle.card_model.specs.CycleDays.{IsOpening}
use Rattle.card_model.specs.Cycles.{Cycle, IssuedRow, Sheet, seen_on}
use Rattle.card_model.specs.Folds.{book, book_after, cycle_at, row_of_cycle, rows_issued}
use Rattle.card_model.specs.Laws.{HistoriesAgree, bill_of}
use Rattle.card_model.specs.Sheets.{sheet_of}
use Rattle.card_model.proofs.Calendar.{cycles_are_of_the_calendar}
use Rattle.card_model.proofs.Cuts.{closings_are_cuts}
use Rattle.card_model.proofs.Grows.{book-grows}
use Rattle.card_model.proofs.Inert.{bill-same}
use Rattle.card_model.proofs.Issue.{issuing_changes_no_past_day}
use Rattle.card_model.proofs.Past.{past_is_enough}
use Rattle.card_model.proofs.Unread.{unfolded_posts_agree}
use Rattle.card_billed.proofs.Sheets.{sheet-agrees}
use Rattle.card_billed.specs.Laws.{BillsMayWait, LaterPostsLeaveIt, RowsAreMadeLate, UnmadeRowsChangeNoPastDay}
use Rattle.card_billed.specs.Unmade.{AreUnmade, IsUnmade}

-- ---- a closed cycle in the books of its closing and of later days
get-append : {A : Type 0} (xs ys : List A) (i : ℕ) (x : A) → slice_get xs i ≡ Some x → slice_get (xs ++ ys) i ≡ Some x
get-append [] ys i x e = let no : None ≡ Some x = e in absurd (cc)
get-append (y ∷ xs) ys zero x e = e
get-append (y ∷ xs) ys (suc i) x e = get-append xs ys i x e

get-take : {A : Type 0} (xs : List A) (i : ℕ) → slice_get (take (suc i) xs) i ≡ slice_get xs i
get-take [] i = refl
get-take (x ∷ xs) zero = refl
get-take (x ∷ xs) (suc i) = get-take xs i

at-append : (k : ℕ) (xs ys : List Cycle) (c : Cycle) → cycle_at k xs ≡ Some c → cycle_at k (xs ++ ys) ≡ Some c
at-append zero xs ys c e = let no : None ≡ Some c = e in absurd (cc)
at-append (suc i) xs ys c e = get-append xs ys i c e

-- it is in the book of every later day
pub cycle-later : (history : List Kept) (issued : List IssuedRow) (shared : SharedRows) (x day k : ℕ) (c : Cycle) → x ≤ day → cycle_at k (book history issued shared x).cycles ≡ Some c → cycle_at k (book history issued shared day).cycles ≡ Some c
unfolding book
cycle-later history issued shared x day k c l at =
    let a = account_of history in
    let s = seen_on (anchor_of history) shared history issued in
    let m = x + 1 - (anchor_of history).opened in
    let n = day + 1 - (anchor_of history).opened in
    let more = n - m in
    let sum : more + m ≡ n = omega arith in
    let grown = (book-grows issued a s m more).cycles in
    let there : cycle_at k (book_after issued a s (more + m)).cycles ≡ Some c = ap (cycle_at k) grown.is ∙ at-append k (book_after issued a s m).cycles grown.rest c at in
    subst (λ d. cycle_at k (book_after issued a s d).cycles ≡ Some c) sum there

-- and in that of its closing
at-take : (k : ℕ) (xs ys : List Cycle) (c : Cycle) → take k xs ≡ ys → cycle_at k xs ≡ Some c → cycle_at k ys ≡ Some c
at-take zero xs ys c e at = at
at-take (suc i) xs ys c e at = ap (λ zs. slice_get zs i) (sym e) ∙ (get-take xs i ∙ at)

pub cycle-closed : (history : List Kept) (issued : List IssuedRow) (shared : SharedRows) (day k : ℕ) (c : Cycle) → IsOpening (anchor_of history) → day ≤ last_calendar_day
    → cycle_at k (book history issued shared day).cycles ≡ Some c → cycle_at k (book history issued shared (closing (anchor_of history) k)).cycles ≡ Some c
cycle-closed history issued shared day k c open' last at =
    let cut = closings_are_cuts history issued shared day k c at in
    let days = cycles_are_of_the_calendar.days history issued shared day k c open' last at in
    ap (λ d. cycle_at k (book history issued shared d).cycles) (sym days.closing) ∙ at-take k (book history issued shared day).cycles (book history issued shared c.closing).cycles c cut.cycles at

-- ---- a row
abbrev row_with : ℕ → ℕ → ℕ → Cycle → Sheet → IssuedRow
row_with cycle bill day c s = record { cycle = cycle; bill = bill; day = day; statement = c; sheet = s }

pub rows_are_made_late : RowsAreMadeLate
rows_are_made_late history made shared r day h l =
    let at = cycle-later history made shared (closing (anchor_of history) r.cycle) day r.cycle r.statement l h.statement in
    ap (row_of_cycle r.cycle r.bill r.day (sheet_of history made shared r.day)) at ∙ ap (λ s. row_with r.cycle r.bill r.day r.statement s ∷ []) (sym h.sheet)

-- ---- over more posts
pub place-append : (n : ℕ) (hs : List Kept) (k b : Kept) → at_number n hs ≡ Some b → at_number n (hs ++ k ∷ []) ≡ Some b
place-append zero hs k b e = let no : None ≡ Some b = e in absurd (cc)
place-append (suc i) hs k b e = get-append hs (k ∷ []) i b e

get-end : (hs : List Kept) (k : Kept) → slice_get (hs ++ k ∷ []) (length hs) ≡ Some k
get-end [] k = refl
get-end (h ∷ hs) k = get-end hs k

pub place-end : (hs : List Kept) (k : Kept) → at_number (length hs + 1) (hs ++ k ∷ []) ≡ Some k
place-end hs k = let e : length hs + 1 ≡ suc (length hs) = omega arith in rw e (get-end hs k)

-- a row that isn't made
pub later_posts_leave_it : LaterPostsLeaveIt
later_posts_leave_it history later made shared other r agree fees more h =
    let early = h.closed in
    let same : closing (anchor_of later) r.cycle ≡ closing (anchor_of history) r.cycle = ap (λ (a : Anchor). closing a r.cycle) agree.anchor in
    let books : book later made other (closing (anchor_of history) r.cycle) ≡ book history made shared (closing (anchor_of history) r.cycle) =
    past_is_enough (closing (anchor_of history) r.cycle) shared other history later made agree (closing (anchor_of history) r.cycle) (omega arith) in
    record {
      bill = h.bill;
      there = more h.bill h.there;
      post = h.post;
      day = h.day;
      closed = subst (λ d. d < r.day) (sym same) early;
      dated = h.dated ∙ sym same;
      statement = ap (λ d. cycle_at r.cycle (book later made other d).cycles) same ∙ (ap (λ (b : Book). cycle_at r.cycle b.cycles) books ∙ h.statement);
      sheet = h.sheet ∙ sym (sheet-agrees history later made shared other r.day r.statement (subst (λ d. HistoriesAgree d shared other history later) (sym h.dated) agree) fees);
    }

-- ---- a row changes no day up to its own
one-row : (history : List Kept) (made : List IssuedRow) (shared : SharedRows) (r : IssuedRow) (day : ℕ) → IsUnmade history made shared r → day ≤ r.day → book history (made ++ r ∷ []) shared day ≡ book history made shared day
one-row history made shared r day h l =
    let early = h.closed in
    let rows = rows_are_made_late history made shared r r.day h (omega (arith, early)) in
    let with : List IssuedRow → Book = λ more. book history (made ++ more) shared day in
    ap with (sym rows)
    ∙ (sym (bill-same history (made ++ rows_issued r.cycle r.bill r.day (sheet_of history made shared r.day) (book history made shared r.day)) shared r.bill [] r.day r.cycle day)
    ∙ issuing_changes_no_past_day history made shared r.bill [] r.day r.cycle day (sheet_of history made shared r.day) l)

pub unmade_rows_change_no_past_day : UnmadeRowsChangeNoPastDay
unfolding AreUnmade
unmade_rows_change_no_past_day history made [] shared day h l = ap (λ rows. book history rows shared day) (append-nil made)
unmade_rows_change_no_past_day history made (r ∷ rest) shared day h l =
    ap (λ rows. book history rows shared day) (sym (append_assoc made (r ∷ []) rest))
    ∙ (unmade_rows_change_no_past_day history (made ++ r ∷ []) rest shared day h.1 (All-tail (λ (x : IssuedRow). day ≤ x.day) r rest l)
    ∙ one-row history made shared r day h.0 (All-head (λ (x : IssuedRow). day ≤ x.day) r rest l))

-- ---- what a Bill issues
opened-same : (hs : List Kept) (k : Kept) → 1 ≤ length hs → anchor_of (hs ++ k ∷ []) ≡ anchor_of hs
opened-same [] k some = absurd (omega (arith, some))
opened-same (x ∷ xs) k some = refl

issued-one : (history : List Kept) (issued : List IssuedRow) (shared : SharedRows) (key : List ℕ) (today cycle : ℕ) (c : Cycle) → 1 ≤ length history → IsOpening (anchor_of history) → today ≤ last_calendar_day
    → closing (anchor_of history) cycle < today → cycle_at cycle (book history issued shared today).cycles ≡ Some c
    → IsUnmade (history ++ bill_of (length history + 1) key today cycle ∷ []) issued shared (row_with cycle (length history + 1) today c (sheet_of history issued shared today c))
issued-one history issued shared key today cycle c some open' last early at =
    let k = bill_of (length history + 1) key today cycle in
    let later = history ++ k ∷ [] in
    let same : closing (anchor_of later) cycle ≡ closing (anchor_of history) cycle = ap (λ (a : Anchor). closing a cycle) (opened-same history k some) in
    let days = cycles_are_of_the_calendar.days history issued shared today cycle c open' last at in
    let books : book later issued shared (closing (anchor_of history) cycle) ≡ book history issued shared (closing (anchor_of history) cycle) = bill-same history issued shared (length history + 1) key today cycle (closing (anchor_of history) cycle) in
    record {
      bill = k;
      there = place-end history k;
      post = refl;
      day = refl;
      closed = subst (λ d. d < today) (sym same) early;
      dated = days.closing ∙ sym same;
      statement = ap (λ d. cycle_at cycle (book later issued shared d).cycles) same ∙ (ap (λ (b : Book). cycle_at cycle b.cycles) books ∙ cycle-closed history issued shared today cycle c open' last at);
      sheet = sym (sheet-agrees history later issued shared shared today c (unfolded_posts_agree history k shared c.closing refl) refl);
    }

head-is : (x y : IssuedRow) → x ∷ [] ≡ y ∷ [] → x ≡ y
head-is x y e = cc

pub bills_may_wait : BillsMayWait
bills_may_wait history issued shared key today cycle r some open' last early is = by (cycle_at cycle (book history issued shared today).cycles) refl is
  where
    by : (o : Option Cycle) → cycle_at cycle (book history issued shared today).cycles ≡ o → row_of_cycle cycle (length history + 1) today (sheet_of history issued shared today) o ≡ r ∷ []
        → IsUnmade (history ++ bill_of (length history + 1) key today cycle ∷ []) issued shared r
    by None at e = let no : [] ≡ r ∷ [] = e in absurd (cc)
    by (Some c) at e =
        subst (λ x. IsUnmade (history ++ bill_of (length history + 1) key today cycle ∷ []) issued shared x) (head-is (row_with cycle (length history + 1) today c (sheet_of history issued shared today c)) r e)
        (issued-one history issued shared key today cycle c some open' last early at)
