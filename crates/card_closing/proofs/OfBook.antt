-- Rows of a book, and the definition of a cycle's interest.
use Rattle.std.proofs.Common.{◌≡◌, ℕ, zero, suc, eqb, false, ◌+◌, ◌-◌, ◌*◌, ◌<◌, ◌≤◌, true, List, [], ◌∷◌, map, length, refl, sym, ap, ◌∙◌, arith, inl, inr, ◌⊎◌, max}
use Rattle.std.specs.List.{sum_by}
use Rattle.std.proofs.lemmas.Bool.{ne_eqb}
use Rattle.std.proofs.lemmas.List.FromFn.{length-map-range_with_len}
use Rattle.std.proofs.lemmas.List.Sums.{sum_by-cons}
use Rattle.card_events.specs.Money.{daily}
use Rattle.card_closing.specs.BookRows.{AreLowering, HasOneCase, day_row, rate_of, repayments, rows_of}
use Rattle.card_closing.specs.GraceLaws.{AgreeFrom, KeptRowsToo, NoEarlierDayNoRepaidPortion, RowsOfABook}
use Rattle.card_closing.specs.Rows.{DayRow, average_of, bearing, interest_on, repaid_later}
use Rattle.card_model.specs.Books.{Account, Book, rate_in}
use Rattle.card_model.specs.Cycles.{Seen}
use Rattle.card_model.specs.Interest.{average_balance, case_of, charged, charged_on, days_from, half_up, interest_sum, repaid_after, row}
use Rattle.card_model.specs.Segments.{SegmentTerms, is_sort}
use Rattle.card_model.specs.declared.entry.Entry.{Entry}
use Rattle.card_model.specs.declared.grace.GraceCase.{GraceCase}
use Rattle.card_model.specs.declared.grace.GraceCase.TheVariants as case
use Rattle.card_model.specs.declared.segment.Sort.TheVariants as sort
use Rattle.card_closing.proofs.Days.{same_sums, sum_by-map, sum_of_none}
use Rattle.card_closing.proofs.Repaid.{repaid_is}

-- ---- the definition
-- equal rows and repayments bear alike
same_charge : (c : GraceCase) (seen : Seen) (xs ys : List Entry) (s day : ℕ) → row ys s day ≡ row xs s day → ((due : ℕ) → repaid_after seen ys s day due ≡ repaid_after seen xs s day due)
    → charged c seen ys s day ≡ charged c seen xs s day
same_charge case.None seen xs ys s day e r = refl
same_charge (case.Lowered due) seen xs ys s day e r = rw (e, r due) refl
same_charge case.Plain seen xs ys s day e r = e

own_days : (a : Account) (seen : Seen) (b c : Book) (purchase : GraceCase) (first : ℕ) (g : SegmentTerms) → AgreeFrom a seen first g b c → interest_sum a seen c purchase first g ≡ interest_sum a seen b purchase first g
unfolding interest_sum
own_days a seen b c purchase first g h =
    same_sums _ _ first (seen.day + 1 - first)
    (λ x l m. rw (same_charge (case_of purchase x g) seen b.entries c.entries g.id x (h.rows x l (omega arith)) (λ due. h.repaid x due l), h.rates x l (omega arith)) refl)

portion : (balance repaid : ℕ) → balance - repaid + repaid ≤ max balance repaid
portion balance repaid = grind arith

paid : (a : Account) (seen : Seen) (b : Book) (first : ℕ) (g : SegmentTerms) → is_sort sort.Purchase g.sort ≡ true → interest_sum a seen b case.None first g ≡ 0
unfolding interest_sum
paid a seen b first g e =
    same_sums _ (λ x. 0) first (seen.day + 1 - first) (λ x l m. rw e (zero_times (daily (rate_in a seen b x g)))) ∙ sum_of_none (days_from seen first)
  where
    zero_times : (n : ℕ) → 0 * n ≡ 0
    zero_times n = omega arith

pub no_earlier_day : NoEarlierDayNoRepaidPortion
no_earlier_day = record {
  own_days = own_days;
  repaid_portion = λ seen entries s day due. portion (row entries s day) (repaid_after seen entries s day due);
  paid = paid;
}

pub kept_too : KeptRowsToo
kept_too = record {
  repaid_portion = λ repaid r due. portion r.balance (repaid_later repaid r.day due);
  paid = λ rows. none_bear rows.days;
}
  where
    none_bear : (rs : List DayRow) → sum_by (λ (r : DayRow). 0 * daily r.rate) rs ≡ 0
    none_bear [] = refl
    none_bear (r ∷ rs) = omega (arith, sum_by-cons (λ (r : DayRow). 0 * daily r.rate) r rs, none_bear rs)

-- ---- kept rows
-- what a kept row bears is what the definition charges
bearing_is : (c : GraceCase) (a : Account) (seen : Seen) (b : Book) (first day : ℕ) (g : SegmentTerms) → first ≤ day → AreLowering b.entries
    → bearing c (repayments seen g.id first b.entries) (day_row a seen b g day) ≡ charged c seen b.entries g.id day
bearing_is case.None a seen b first day g l h = refl
bearing_is (case.Lowered due) a seen b first day g l h = rw (repaid_is seen g.id first day due b.entries l h) refl
bearing_is case.Plain a seen b first day g l h = refl

nothing_borne : (c : GraceCase) (seen : Seen) (es : List Entry) (s day : ℕ) → row es s day ≡ 0 → charged c seen es s day ≡ 0
nothing_borne case.None seen es s day e = refl
nothing_borne (case.Lowered due) seen es s day e = rw e (omega arith)
nothing_borne case.Plain seen es s day e = e

-- a day bears interest as today does
as_today : (seen : Seen) (b : Book) (purchase : GraceCase) (day : ℕ) (g : SegmentTerms) → (case_of purchase day g ≡ case_of purchase seen.day g) ⊎ (row b.entries g.id day ≡ 0)
    → charged (case_of purchase seen.day g) seen b.entries g.id day ≡ charged_on seen b purchase g day
as_today seen b purchase day g (inl e) = rw e refl
as_today seen b purchase day g (inr e) = nothing_borne (case_of purchase seen.day g) seen b.entries g.id day e ∙ sym (nothing_borne (case_of purchase day g) seen b.entries g.id day e)

bears : (a : Account) (seen : Seen) (b : Book) (purchase : GraceCase) (first : ℕ) (g : SegmentTerms) → AreLowering b.entries → HasOneCase seen b purchase first g
    → (x : ℕ) → first ≤ x → x < first + (seen.day + 1 - first) → bearing (case_of purchase seen.day g) (repayments seen g.id first b.entries) (day_row a seen b g x) ≡ charged_on seen b purchase g x
bears a seen b purchase first g h k x l m = bearing_is (case_of purchase seen.day g) a seen b first x g l h ∙ as_today seen b purchase x g (k x l (omega arith))

charged-le : (c : GraceCase) (seen : Seen) (es : List Entry) (s day : ℕ) → charged c seen es s day ≤ row es s day
charged-le case.None seen es s day = omega arith
charged-le (case.Lowered due) seen es s day = omega arith
charged-le case.Plain seen es s day = omega arith

-- without a balance the rate doesn't matter
any_rate : (balance borne rate : ℕ) → borne ≤ balance → borne * daily (rate_of balance rate) ≡ borne * daily rate
any_rate zero borne rate l = let none : borne ≡ 0 = omega arith in rw none (nothing (daily 0) (daily rate))
  where
    nothing : (x y : ℕ) → 0 * x ≡ 0 * y
    nothing x y = omega arith
any_rate (suc n) borne rate l = let owed : eqb (suc n) 0 ≡ false = ne_eqb (suc n) 0 (λ e. omega arith) in rw owed refl

interest_is : (a : Account) (seen : Seen) (b : Book) (purchase : GraceCase) (first : ℕ) (g : SegmentTerms) → AreLowering b.entries → HasOneCase seen b purchase first g
    → interest_on (case_of purchase seen.day g) (rows_of a seen b first g) ≡ interest_sum a seen b purchase first g
unfolding rows_of interest_sum
interest_is a seen b purchase first g h k =
    let c = case_of purchase seen.day g in
    let repaid = repayments seen g.id first b.entries in
    sum_by-map (day_row a seen b g) (λ (r : DayRow). bearing c repaid r * daily r.rate) (days_from seen first)
    ∙ same_sums (λ x. bearing c repaid (day_row a seen b g x) * daily (day_row a seen b g x).rate) (λ x. charged_on seen b purchase g x * daily (rate_in a seen b x g)) first (seen.day + 1 - first)
    (λ x l m.
    ap (λ n. n * daily (rate_of (row b.entries g.id x) (rate_in a seen b x g))) (bears a seen b purchase first g h k x l m)
    ∙ any_rate (row b.entries g.id x) (charged_on seen b purchase g x) (rate_in a seen b x g) (charged-le (case_of purchase x g) seen b.entries g.id x))

average_is : (a : Account) (seen : Seen) (b : Book) (purchase : GraceCase) (first : ℕ) (g : SegmentTerms) → AreLowering b.entries → HasOneCase seen b purchase first g
    → average_of (case_of purchase seen.day g) (rows_of a seen b first g) ≡ average_balance seen b purchase first g
unfolding rows_of average_balance
average_is a seen b purchase first g h k =
    let c = case_of purchase seen.day g in
    let repaid = repayments seen g.id first b.entries in
    let sum = sum_by-map (day_row a seen b g) (bearing c repaid) (days_from seen first)
    ∙ same_sums (λ x. bearing c repaid (day_row a seen b g x)) (charged_on seen b purchase g) first (seen.day + 1 - first) (bears a seen b purchase first g h k) in
    ap (λ n. half_up n (length (map (day_row a seen b g) (days_from seen first)))) sum
    ∙ ap (half_up (sum_by (charged_on seen b purchase g) (days_from seen first))) (length-map-range_with_len (day_row a seen b g) first (seen.day + 1 - first))

pub rows_of_a_book : RowsOfABook
rows_of_a_book = record { interest = interest_is; average = average_is }
