-- Interest of every balance counts the days of its own cycle alone.
use Rattle.std.proofs.Common.{◌≡◌, ℕ, ◌+◌, ◌-◌, ◌*◌, ◌≤◌, ◌<◌, Bool, true, false, cond, ◌&&◌, List, [], ltb, leb, refl, sym, ap, ◌∙◌, subst, arith, Option, Some, None}
use Rattle.std.proofs.Math.Nat.{mul-le-mul_right}
use Rattle.std.proofs.lemmas.List.Elements.{All-contains}
use Rattle.std.specs.List.{Contains, range_with_len, sum_by}
use Rattle.card_events.specs.History.{anchor_of, corrected, folded, is_folded}
use Rattle.card_events.specs.Money.{daily, interest}
use Rattle.card_events.specs.SharedRows.{SharedRows}
use Rattle.card_events.specs.declared.kept.Kept.{Kept}
use Rattle.card_model.proofs.PartsSum.{SegmentsAscend, rises-filter, segments-ascend, slots-rise}
use Rattle.card_model.specs.Books.{Account, Book, account_of, all_segments, rate_in}
use Rattle.card_model.specs.Closing.{Posting, by_segment, closing_interest, first_day_of, first_of, post_interest, purchase_case_in}
use Rattle.card_model.specs.Cycles.{Cycle, IssuedRow, Seen, amount_at, last_cycle}
use Rattle.card_model.specs.Entries.{owing}
use Rattle.card_model.specs.Folds.{book}
use Rattle.card_model.specs.Interest.{accrual, case_of, charged, charged_on, cycle_interest, deferred_interest, ends_today, interest_sum, row}
use Rattle.card_model.specs.Segments.{SegmentTerms}
use Rattle.card_model.specs.declared.grace.GraceCase.{GraceCase}
use Rattle.card_model.specs.declared.grace.GraceCase.TheVariants as case
use Rattle.card_rates.proofs.DayLaws.{rates_any, rates_later}
use Rattle.card_rates.specs.Laws.{seen_in, segments_on}
use Rattle.card_rates.specs.RateBooks.{rate_of, rates_of}
use Rattle.card_rules.proofs.ClosingAmounts.{HasMoreInterest, asked-most, closing-more, interest-stays, listed-most, more-all, more-none, row-stays, sum-below}
use Rattle.card_rules.proofs.Grace.{IsClosing, closing-of, interest-grows, last-there}
use Rattle.card_rules.specs.Grace.{interest_on}
use Rattle.card_rules.specs.OwnDays.{BearsItsOwnDaysAlone}
use Rattle.card_rules.specs.Rises.{rate_at}

-- a segment that is no plan whose period ends today is charged no deferred interest
not-ending : (seen : Seen) (b : Book) (g : SegmentTerms) → ends_today seen g ≡ false → deferred_interest seen b g ≤ 0
not-ending seen b g e = go (ends_today seen g) (ltb 0 (owing g.id b.entries)) (interest (accrual seen b g)) e
  where
    go : (t u : Bool) (x : ℕ) → t ≡ false → cond (t && u) x 0 ≤ 0
    go true u x e = absurd (cc)
    go false u x e = omega arith

-- of any other segment: at most the interest of the cycle on the book before
most-of : (issued : Option IssuedRow) (a : Account) (seen : Seen) (b : Book) (g : SegmentTerms) → SegmentsAscend 2 (all_segments a seen) → Contains (all_segments a seen) g → ends_today seen g ≡ false
    → first_day_of a b ≤ seen.day + 1
    → amount_at g.id (by_segment (λ v. amount_at v.id (closing_interest issued a seen b).amounts) (all_segments a seen)) ≤ cycle_interest a seen (purchase_case_in seen b) (first_day_of a b) b g
unfolding closing_interest
most-of issued a seen b g up there is low =
    let gs = all_segments a seen in
    let purchase = purchase_case_in seen b in
    let first = first_day_of a b in
    let start : Posting = record { amounts = []; book = b } in
    let amount = cycle_interest a seen purchase first in
    let once = post_interest issued seen amount gs start in
    let none = more-none seen.day b in
    let one = asked-most issued seen amount b (amount b g) 2 gs g start up there (λ other more. let same = interest-stays a seen purchase first b other g low more in omega (arith, same)) none in
    let more = more-all issued seen b amount gs start none in
    let two = asked-most issued seen (deferred_interest seen) b 0 2 gs g once up there (λ other m. not-ending seen other g is) more in
    let listed = listed-most (λ id. amount_at id (closing_interest issued a seen b).amounts) g.id 2 gs up in
    omega (arith, one, two, listed)

module _ (history : List Kept) (issued : List IssuedRow) (shared : SharedRows) (c : Cycle) (g : SegmentTerms) (opened : (anchor_of history).opened ≤ c.closing) (h : IsClosing history issued shared c.closing c)
    (there : Contains (segments_on history issued shared c.closing) g) (is : ends_today (seen_in history issued shared c.closing) g ≡ false) where
  abbrev own : Account
  own = account_of history

  abbrev seen : Seen
  seen = seen_in history issued shared c.closing

  abbrev way : GraceCase
  way = purchase_case_in seen h.posted

  abbrev first : ℕ
  first = first_day_of own h.posted

  first-is : c.first ≡ first
  first-is = ap (λ (x : Cycle). x.first) h.is

  first-low : first ≤ c.closing + 1
  first-low = by (last_cycle h.posted.cycles) refl
    where
      by : (o : Option Cycle) → last_cycle h.posted.cycles ≡ o → first_of own o ≤ c.closing + 1
      by None e = omega (arith, opened)
      by (Some p) e = let l = All-contains (λ (x : Cycle). x.closing < c.closing) h.posted.cycles p h.closed (last-there h.posted.cycles p e) in omega (arith, l)

  ascend : SegmentsAscend 2 (all_segments own seen)
  ascend =
      let a = anchor_of history in
      segments-ascend own seen (rises-filter (λ s. leb s.day c.closing) 5 (folded a shared.holidays history) (rises-filter (λ s. is_folded s.post) 5 (corrected a shared.holidays history) (slots-rise a shared.holidays history 1 5 history)))

  most : amount_at g.id c.interest ≤ cycle_interest own seen way first h.posted g
  most =
      let most = most-of h.row own seen h.posted g ascend there is first-low in
      let same = ap (λ (x : Cycle). amount_at g.id x.interest) h.is in
      omega (arith, most, same)

  more : HasMoreInterest c.closing h.posted (closing_interest h.row own seen h.posted).book
  more = closing-more h.row own seen h.posted

  row-is : (x : ℕ) → x ≤ c.closing → row (book history issued shared c.closing).entries g.id x ≡ row h.posted.entries g.id x
  row-is x l = let m = more in ap (λ es. row es g.id x) (h.entries ∙ m.entries) ∙ row-stays h.posted.entries m.more g.id c.closing x l m.each

  rate-is : (x : ℕ) → x ≤ c.closing → rate_in own seen h.posted x g ≡ rate_at history issued shared x g
  rate-is x l =
      sym (rates_any history issued shared h.posted x c.closing g l)
      ∙ (ap (λ ps. rate_of shared.index (rates_of shared.holidays history ps) x g) (sym h.penalties) ∙ rates_later history issued shared x c.closing g l)

  plain : (k : GraceCase) (x : ℕ) → charged k seen h.posted.entries g.id x ≤ row h.posted.entries g.id x
  plain case.None x = omega arith
  plain (case.Lowered due) x = omega arith
  plain case.Plain x = omega arith

  few : (x : ℕ) → x ≤ c.closing → charged_on seen h.posted way g x ≤ row (book history issued shared c.closing).entries g.id x
  few x l = let r = row-is x l in let f = plain (case_of way x g) x in omega (arith, r, f)

  own-days : amount_at g.id c.interest ≤ interest_on history issued shared c g (λ x. row (book history issued shared c.closing).entries g.id x)
  unfolding interest_sum
  own-days =
      let each : (x : ℕ) → x ≤ c.closing → charged_on seen h.posted way g x * daily (rate_in own seen h.posted x g) ≤ row (book history issued shared c.closing).entries g.id x * daily (rate_at history issued shared x g) = λ x l.
      subst (λ r. charged_on seen h.posted way g x * daily (rate_in own seen h.posted x g) ≤ row (book history issued shared c.closing).entries g.id x * daily r) (rate-is x l)
      (mul-le-mul_right (daily (rate_in own seen h.posted x g)) (few x l)) in
      let low = first-low in
      let sums = interest-grows _ _ (sum-below (λ x. charged_on seen h.posted way g x * daily (rate_in own seen h.posted x g)) (λ x. row (book history issued shared c.closing).entries g.id x * daily (rate_at history issued shared x g)) first (c.closing + 1 - first) c.closing (omega (arith, low)) each) in
      let asked = most in
      let same = ap (λ d. interest (sum_by (λ x. row (book history issued shared c.closing).entries g.id x * daily (rate_at history issued shared x g)) (range_with_len d (c.closing + 1 - d)))) first-is in
      omega (arith, sums, asked, same)

pub bears_its_own_days_alone : BearsItsOwnDaysAlone
bears_its_own_days_alone history issued shared day k c g o l at there is =
    let closing = closing-of history issued shared day k c o l at in
    own-days history issued shared c g closing.0 closing.1 there is
