-- The totals of a calendar year go on from statement to statement.
use Rattle.std.proofs.Common.{◌≡◌, ℕ, zero, suc, ◌+◌, ◌-◌, ◌≤◌, ◌<◌, ◌⊎◌, inl, inr, true, false, cond, List, [], ◌∷◌, ◌++◌, take, eqb, refl, sym, ap, ◌∙◌, subst, arith, Some, pos}
use Rattle.std.proofs.lemmas.Bool.{cases_lt, eq-eqb, ne_eqb}
use Rattle.std.proofs.lemmas.Int.{ints}
use Rattle.std.proofs.lemmas.List.Elements.{All-nil, All-cons, All-head, All-tail}
use Rattle.std.proofs.lemmas.List.Sums.{sum_by-append}
use Rattle.std.specs.Prelude.{slice_get, ◌+ℤ◌}
use Rattle.std.specs.List.{All, sum_by}
use Rattle.card_events.proofs.Cycles.{closing_grows}
use Rattle.card_events.proofs.DateFacts.{after_first, before_year}
use Rattle.card_events.proofs.Dates.{date_of-has}
use Rattle.card_events.specs.Billing.{closing}
use Rattle.card_events.specs.Civil.{date_of}
use Rattle.card_events.specs.History.{anchor_of}
use Rattle.card_events.specs.Range.{last_request_day}
use Rattle.card_events.specs.SharedRows.{SharedRows}
use Rattle.card_events.specs.declared.kept.Kept.{Kept}
use Rattle.card_model.proofs.Calendar.{cycles_are_of_the_calendar}
use Rattle.card_model.proofs.Cuts.{closing-within, closings_are_cuts}
use Rattle.card_model.specs.CycleDays.{IsOpening}
use Rattle.card_model.specs.Cycles.{Cycle, IssuedRow, amounts_sum}
use Rattle.card_model.specs.Fees.{fees_sum}
use Rattle.card_model.specs.Folds.{book, book_after, cycle_at}
use Rattle.card_model.specs.Sheets.{sheet_in, sheet_of, year_sum}
use Rattle.card_rules.proofs.CycleDays.{closings-ascend}
use Rattle.card_rules.specs.YearSums.{AddItsOwn, AreItsOwn, YearsAddUp, closing_year}

-- ---- years ascend with days
years-ascend : (n m : ℕ) → n ≤ m → m < 133_000 → (date_of n).year ≤ (date_of m).year
years-ascend n m l far = by (cases_lt (date_of m).year (date_of n).year)
  where
    by : ((date_of m).year < (date_of n).year) ⊎ ((date_of n).year ≤ (date_of m).year) → (date_of n).year ≤ (date_of m).year
    by (inr le) = le
    by (inl less) =
        let a = date_of-has n (omega (arith, l, far)) in
        let b = date_of-has m far in
        let up = after_first (date_of n).year (date_of n).month (date_of n).day (date_of n).year a.year_low (omega arith) a.day_low in
        let down = before_year (date_of m).year (date_of m).month (date_of m).day (date_of n).year b.year_low (let h = b.year_high in omega (arith, h)) b.month_low b.month_high b.day_low b.day_high less in
        let x = a.number in
        let y = b.number in
        absurd (omega (arith, up, down, x, y, l))

-- ---- the cycles of a closing are those before and its own
front : (i : ℕ) (cs : List Cycle) (d : Cycle) → slice_get cs i ≡ Some d → take (suc i) cs ≡ take i cs ++ d ∷ []
front zero [] d e = absurd (cc)
front zero (x ∷ xs) d e = let same : x ≡ d = cc in ap (λ (y : Cycle). y ∷ []) same
front (suc i) [] d e = absurd (cc)
front (suc i) (x ∷ xs) d e = ap (λ (ys : List Cycle). x ∷ ys) (front i xs d e)

year-push : (f : Cycle → ℕ) (cs : List Cycle) (d : Cycle) → year_sum f d.closing (cs ++ d ∷ []) ≡ year_sum f d.closing cs + f d
unfolding year_sum
year-push f cs d =
    let here : eqb (date_of d.closing).year (date_of d.closing).year ≡ true = eq-eqb _ _ refl in
    sum_by-append (λ (x : Cycle). cond (eqb (date_of x.closing).year (date_of d.closing).year) (f x) 0) cs (d ∷ [])
    ∙ rw here (omega arith)

-- of cycles of other years nothing
none-of-year : (f : Cycle → ℕ) (on : ℕ) (cs : List Cycle) → All (λ (x : Cycle). (date_of x.closing).year < (date_of on).year) cs → year_sum f on cs ≡ 0
unfolding year_sum
none-of-year f on [] h = refl
none-of-year f on (x ∷ xs) h =
    let here = All-head (λ (x : Cycle). (date_of x.closing).year < (date_of on).year) x xs h in
    let rest = none-of-year f on xs (All-tail (λ (x : Cycle). (date_of x.closing).year < (date_of on).year) x xs h) in
    let out : eqb (date_of x.closing).year (date_of on).year ≡ false = ne_eqb _ _ (λ e. omega (arith, here, e)) in
    rw (out, rest) refl

same-year : (f : Cycle → ℕ) (on other : ℕ) (cs : List Cycle) → (date_of on).year ≡ (date_of other).year → year_sum f on cs ≡ year_sum f other cs
unfolding year_sum
same-year f on other cs e = ap (λ (y : ℕ). sum_by (λ (x : Cycle). cond (eqb (date_of x.closing).year y) (f x) 0) cs) e

all-at : (P : Cycle → Type 0) (cs : List Cycle) → ((i : ℕ) (c : Cycle) → slice_get cs i ≡ Some c → P c) → All P cs
all-at P [] h = All-nil P
all-at P (x ∷ xs) h = All-cons P x xs (h zero x refl) (all-at P xs (λ i c e. h (suc i) c e))

-- ---- a statement's totals, by the cycles of its closing
module _ (history : List Kept) (issued : List IssuedRow) (shared : SharedRows) (issue : ℕ) (c : Cycle) where
  fees-are : (sheet_of history issued shared issue c).fees_year ≡ pos (year_sum (λ d. fees_sum d.fees) c.closing (book history issued shared c.closing).cycles)
  unfolding sheet_of sheet_in
  fees-are = refl

  interest-are : (sheet_of history issued shared issue c).interest_year ≡ pos (year_sum (λ d. amounts_sum d.interest) c.closing (book history issued shared c.closing).cycles)
  unfolding sheet_of sheet_in
  interest-are = refl

-- the cycles at a closing
through : (history : List Kept) (issued : List IssuedRow) (shared : SharedRows) (day k : ℕ) (c : Cycle) → cycle_at k (book history issued shared day).cycles ≡ Some c
    → (book history issued shared c.closing).cycles ≡ take k (book history issued shared day).cycles
through history issued shared day k c e = sym (closings_are_cuts history issued shared day k c e).cycles

next-through : (history : List Kept) (issued : List IssuedRow) (shared : SharedRows) (day k : ℕ) (d : Cycle) → cycle_at (suc k) (book history issued shared day).cycles ≡ Some d
    → (book history issued shared d.closing).cycles ≡ take k (book history issued shared day).cycles ++ d ∷ []
next-through history issued shared day k d e = through history issued shared day (suc k) d e ∙ front k (book history issued shared day).cycles d e

-- the year's sum at a closing, by the cycles before it
summed : (f : Cycle → ℕ) (history : List Kept) (issued : List IssuedRow) (shared : SharedRows) (day k : ℕ) (d : Cycle) → cycle_at (suc k) (book history issued shared day).cycles ≡ Some d
    → year_sum f d.closing (book history issued shared d.closing).cycles ≡ year_sum f d.closing (take k (book history issued shared day).cycles) + f d
summed f history issued shared day k d e =
    ap (year_sum f d.closing) (next-through history issued shared day k d e) ∙ year-push f (take k (book history issued shared day).cycles) d

own : (f : Cycle → ℕ) (history : List Kept) (issued : List IssuedRow) (shared : SharedRows) (day k : ℕ) (d : Cycle) → cycle_at (suc k) (book history issued shared day).cycles ≡ Some d
    → year_sum f d.closing (take k (book history issued shared day).cycles) ≡ 0 → year_sum f d.closing (book history issued shared d.closing).cycles ≡ f d
own f history issued shared day k d e none = let all = summed f history issued shared day k d e in omega (arith, all, none)

its-own : (history : List Kept) (issued : List IssuedRow) (shared : SharedRows) (day issue k : ℕ) (d : Cycle) → cycle_at (suc k) (book history issued shared day).cycles ≡ Some d
    → ((f : Cycle → ℕ) → year_sum f d.closing (take k (book history issued shared day).cycles) ≡ 0) → AreItsOwn d (sheet_of history issued shared issue d)
its-own history issued shared day issue k d e none = record {
  fees = fees-are history issued shared issue d ∙ ap pos (own (λ x. fees_sum x.fees) history issued shared day k d e (none (λ x. fees_sum x.fees)));
  interest = interest-are history issued shared issue d ∙ ap pos (own (λ x. amounts_sum x.interest) history issued shared day k d e (none (λ x. amounts_sum x.interest)));
}

first : (history : List Kept) (issued : List IssuedRow) (shared : SharedRows) (day issue : ℕ) (c : Cycle)
    → cycle_at 1 (book history issued shared day).cycles ≡ Some c → AreItsOwn c (sheet_of history issued shared issue c)
first history issued shared day issue c e = its-own history issued shared day issue 0 c e (λ f. none-of-year f c.closing [] (All-nil (λ (x : Cycle). (date_of x.closing).year < (date_of c.closing).year)))

-- ---- in one year
added : (f : Cycle → ℕ) (history : List Kept) (issued : List IssuedRow) (shared : SharedRows) (day k : ℕ) (c d : Cycle)
    → cycle_at k (book history issued shared day).cycles ≡ Some c → cycle_at (suc k) (book history issued shared day).cycles ≡ Some d → closing_year d ≡ closing_year c
    → year_sum f d.closing (book history issued shared d.closing).cycles ≡ year_sum f c.closing (book history issued shared c.closing).cycles + f d
added f history issued shared day k c d e i same =
    let all = summed f history issued shared day k d i in
    let before = ap (year_sum f c.closing) (through history issued shared day k c e) in
    let one = same-year f d.closing c.closing (take k (book history issued shared day).cycles) same in
    omega (arith, all, before, one)

sum-is : (a b c : ℕ) → a ≡ b + c → pos a ≡ pos b +ℤ pos c
sum-is a b c e = omega (arith, ints, e)

in-one-year : (history : List Kept) (issued : List IssuedRow) (shared : SharedRows) (day issue other k : ℕ) (c d : Cycle)
    → cycle_at k (book history issued shared day).cycles ≡ Some c → cycle_at (k + 1) (book history issued shared day).cycles ≡ Some d
    → closing_year d ≡ closing_year c → AddItsOwn (sheet_of history issued shared other c) d (sheet_of history issued shared issue d)
in-one-year history issued shared day issue other k c d e i same = record {
  fees =
      fees-are history issued shared issue d
      ∙ (sum-is _ _ _ (added (λ x. fees_sum x.fees) history issued shared day k c d e next same) ∙ ap (λ z. z +ℤ pos (fees_sum d.fees)) (sym (fees-are history issued shared other c)));
  interest =
      interest-are history issued shared issue d
      ∙ (sum-is _ _ _ (added (λ x. amounts_sum x.interest) history issued shared day k c d e next same) ∙ ap (λ z. z +ℤ pos (amounts_sum d.interest)) (sym (interest-are history issued shared other c)));
}
  where
    next : cycle_at (suc k) (book history issued shared day).cycles ≡ Some d
    next = let one : k + 1 ≡ suc k = omega arith in subst (λ n. cycle_at n (book history issued shared day).cycles ≡ Some d) one i

-- ---- in a new year
none-before : (history : List Kept) (issued : List IssuedRow) (shared : SharedRows) (day k : ℕ) (c : Cycle) → day < (anchor_of history).opened → cycle_at k (book history issued shared day).cycles ≡ Some c → ⊥
unfolding book book_after
none-before history issued shared day zero c l e = cc
none-before history issued shared day (suc k) c l e =
    let none : day + 1 - (anchor_of history).opened ≡ 0 = omega arith in
    let at = rw none at e in
    absurd (cc)

in-new-year : (history : List Kept) (issued : List IssuedRow) (shared : SharedRows) (day issue k : ℕ) (c d : Cycle) → IsOpening (anchor_of history) → day ≤ last_request_day
    → cycle_at k (book history issued shared day).cycles ≡ Some c → cycle_at (k + 1) (book history issued shared day).cycles ≡ Some d
    → (closing_year d ≡ closing_year c → ⊥) → AreItsOwn d (sheet_of history issued shared issue d)
in-new-year history issued shared day issue k c d h high e i other = by (cases_lt day (anchor_of history).opened)
  where
    next : cycle_at (suc k) (book history issued shared day).cycles ≡ Some d
    next = let one : k + 1 ≡ suc k = omega arith in subst (λ n. cycle_at n (book history issued shared day).cycles ≡ Some d) one i

    one-or-more : (j : ℕ) → cycle_at j (book history issued shared day).cycles ≡ Some c → 1 ≤ j
    one-or-more zero e = absurd (cc)
    one-or-more (suc j) e = omega arith

    opened-by : (anchor_of history).opened ≤ c.closing
    opened-by =
        let a = anchor_of history in
        let at = (cycles_are_of_the_calendar.days history issued shared day k c h (omega (arith, high)) e).closing in
        let up = closings-ascend a 1 k (one-or-more k e) in
        let step = closing_grows a 0 in
        let start : closing a 0 ≡ a.opened - 1 = unfold closing in refl in
        omega (arith, at, up, step, start)

    in-turn : c.closing ≤ d.closing
    in-turn =
        let x = (cycles_are_of_the_calendar.days history issued shared day k c h (omega (arith, high)) e).closing in
        let y = (cycles_are_of_the_calendar.days history issued shared day (suc k) d h (omega (arith, high)) next).closing in
        let step = closing_grows (anchor_of history) k in
        omega (arith, x, y, step)

    by : (day < (anchor_of history).opened) ⊎ ((anchor_of history).opened ≤ day) → AreItsOwn d (sheet_of history issued shared issue d)
    by (inl early) = absurd (none-before history issued shared day k c early e)
    by (inr begun) =
        let within = closing-within history issued shared day (suc k) d begun next in
        let later = years-ascend c.closing d.closing in-turn (omega (arith, within, high)) in
        let less : (date_of c.closing).year < (date_of d.closing).year = strict (date_of c.closing).year (date_of d.closing).year later other in
        let each : All (λ (x : Cycle). (date_of x.closing).year < (date_of d.closing).year) (book history issued shared c.closing).cycles =
        all-at (λ (x : Cycle). (date_of x.closing).year < (date_of d.closing).year) (book history issued shared c.closing).cycles
        (λ j x at.
        let low = closing-within history issued shared c.closing (suc j) x opened-by at in
        let years = years-ascend x.closing c.closing low (omega (arith, within, high, in-turn)) in
        omega (arith, years, less)) in
        its-own history issued shared day issue k d next
        (λ f. none-of-year f d.closing (take k (book history issued shared day).cycles) (subst (All (λ (x : Cycle). (date_of x.closing).year < (date_of d.closing).year)) (through history issued shared day k c e) each))
      where
        strict : (x y : ℕ) → x ≤ y → (y ≡ x → ⊥) → x < y
        strict x y l n = pick (cases_lt x y)
          where
            pick : (x < y) ⊎ (y ≤ x) → x < y
            pick (inl l) = l
            pick (inr m) = absurd (n (omega (arith, l, m)))

pub years_add_up : YearsAddUp
years_add_up = record { first = first; same_year = in-one-year; new_year = in-new-year }
