-- The rate of an opening vintage that follows the index.
use Rattle.std.proofs.Common.{◌≡◌, ℕ, zero, suc, ◌+◌, ◌≤◌, ◌<◌, ◌⊎◌, inl, inr, min, Bool, true, false, cond, ◌&&◌, List, [], ◌∷◌, ◌++◌, leb, ltb, refl, sym, ap, ◌∙◌, subst, arith, Option, Some, None}
use Rattle.std.proofs.lemmas.Bool.Decides.{nat_tests}
use Rattle.std.specs.List.{Contains, cons_option, filter_map, fold}
use Rattle.card_events.specs.History.{anchor_of, corrected, is_variable, terms_of}
use Rattle.card_events.specs.Money.{rate_limit}
use Rattle.card_events.specs.SharedRows.{SharedRows}
use Rattle.card_events.specs.declared.kept.Kept.{Kept}
use Rattle.card_events.specs.declared.post.Terms.{Terms}
use Rattle.card_model.specs.Cycles.{IssuedRow}
use Rattle.card_model.specs.Folds.{book}
use Rattle.card_model.specs.Rates.{Begun, Lowering, bears_as, bears_in, capped, in_force, is_opening, lowered_by, lowerings, own, rate_on, start_of, starts}
use Rattle.card_model.specs.Segments.{SegmentTerms, is_plan, is_sort, last_that, opening_vintage, opening_vintages}
use Rattle.card_model.specs.declared.segment.Interval.{Interval}
use Rattle.card_model.specs.declared.segment.Sort.{Sort}
use Rattle.card_model.specs.declared.segment.Sort.TheVariants as sort
use Rattle.card_rates.proofs.Added.{added-by-number, segments-are}
use Rattle.card_rates.proofs.ByNumber.{number-above}
use Rattle.card_rates.proofs.DayLaws.{rates_later, segments_of_a_day}
use Rattle.card_rates.specs.Added.{added_from}
use Rattle.card_rates.specs.Laws.{segments_on}
use Rattle.card_rates.specs.RateBooks.{AreByNumber, rates_of}
use Rattle.card_rules.proofs.Rises.{rates_rise_by_exceptions_alone}
use Rattle.card_rules.specs.IndexRates.{RatesFollowTheIndex, index_at, margin_and_index}
use Rattle.card_rules.specs.Notices.{AreNotices}
use Rattle.card_rules.specs.Rises.{IndexRose, MayRise, rate_at}

low-is : (n m : ℕ) → leb n m ≡ true → n ≤ m
low-is n m e = grind (arith, nat_tests)

is-low : (n m : ℕ) → n ≤ m → leb n m ≡ true
is-low n m l = grind (arith, nat_tests)

is-high : (n m : ℕ) → m < n → leb n m ≡ false
is-high n m l = grind (arith, nat_tests)

less-is : (n m : ℕ) → ltb n m ≡ true → n < m
less-is n m e = grind (arith, nat_tests)

not-out : (s x y : Bool) → (s && false && x && y) ≡ false
not-out true x y = refl
not-out false x y = refl

-- ---- the opening vintages
record IsOfTheOpening (opened day : ℕ) (all : List SegmentTerms) (g : SegmentTerms) : Type 0 where
  pub begins : g.begins ≡ opened
  pub effective : g.effective ≡ opened
  pub vintage : is_plan g ≡ false
  pub itself : last_that (bears_in day g.sort g.id) all ≡ Some g

-- later vintages aren't read for an opening one
pub none-later : (day id m : ℕ) (s : Sort) (gs : List SegmentTerms) → AreByNumber m gs → id < m → last_that (bears_in day s id) gs ≡ None
unfolding AreByNumber
none-later day id m s [] h l = refl
none-later day id m s (v ∷ vs) (i, h) l =
    let rest = none-later day id (suc m) s vs h (omega arith) in
    let out : leb v.id id ≡ false = is-high v.id id (omega (arith, i, l)) in
    let no = not-out (is_sort s v.sort) (leb v.begins day) (leb v.effective day) in
    rw (rest, out, no) refl

opening-is : (opened day : ℕ) (terms : Terms) (added : List SegmentTerms) (g : SegmentTerms) → AreByNumber 5 added → opened ≤ day → Contains (opening_vintages opened terms ++ added) g → is_opening g ≡ true
    → IsOfTheOpening opened day (opening_vintages opened terms ++ added) g
opening-is opened day terms added g n l (zero, k, e) e5 = subst (IsOfTheOpening opened day (opening_vintages opened terms ++ added)) e (record { begins = refl; effective = refl; vintage = refl; itself = it })
  where
    it : last_that (bears_in day sort.Purchase 2) (opening_vintages opened terms ++ added) ≡ Some (opening_vintage 2 sort.Purchase opened terms.purchase)
    it = let none = none-later day 2 5 sort.Purchase added n (omega arith) in let begun = is-low opened day l in rw (none, begun) refl
opening-is opened day terms added g n l (suc zero, k, e) e5 = subst (IsOfTheOpening opened day (opening_vintages opened terms ++ added)) e (record { begins = refl; effective = refl; vintage = refl; itself = it })
  where
    it : last_that (bears_in day sort.Cash 3) (opening_vintages opened terms ++ added) ≡ Some (opening_vintage 3 sort.Cash opened terms.cash)
    it = let none = none-later day 3 5 sort.Cash added n (omega arith) in let begun = is-low opened day l in rw (none, begun) refl
opening-is opened day terms added g n l (suc (suc zero), k, e) e5 = subst (IsOfTheOpening opened day (opening_vintages opened terms ++ added)) e (record { begins = refl; effective = refl; vintage = refl; itself = it })
  where
    it : last_that (bears_in day sort.Transfer 4) (opening_vintages opened terms ++ added) ≡ Some (opening_vintage 4 sort.Transfer opened terms.transfer)
    it = let none = none-later day 4 5 sort.Transfer added n (omega arith) in let begun = is-low opened day l in rw (none, begun) refl
opening-is opened day terms added g n l (suc (suc (suc k)), b, e) e5 =
    let high = number-above 5 added g n (k, omega arith, e) in
    let low = less-is g.id 5 e5 in
    absurd (omega (arith, high, low))

-- ---- Lowers only lower
lowered-low : (s : Sort) (from day r : ℕ) (l : Lowering) → lowered_by s from day r l ≤ r
lowered-low s from day r l = by (is_sort s l.sort && leb from l.day && leb l.day day)
  where
    by : (t : Bool) → cond t (min r l.rate) r ≤ r
    by true = omega arith
    by false = omega arith

folded-low : (s : Sort) (from day r : ℕ) (ls : List Lowering) → fold (lowered_by s from day) r ls ≤ r
folded-low s from day r [] = omega arith
folded-low s from day r (l ∷ ls) = let one = lowered-low s from day r l in let rest = folded-low s from day (lowered_by s from day r l) ls in omega (arith, one, rest)

pub capped-low : (ls : List Lowering) (s : Sort) (day : ℕ) (b : Begun) → capped ls s day b ≤ b.rate
unfolding capped
capped-low ls s day b = folded-low s b.from day b.rate ls

capped-none : (s : Sort) (day : ℕ) (b : Begun) → capped [] s day b ≡ b.rate
unfolding capped
capped-none s day b = refl

-- ---- the rate
own-is : (i opened day : ℕ) (all : List SegmentTerms) (g : SegmentTerms) → IsOfTheOpening opened day all g → is_opening g ≡ true → (own (Some i) all day g).rate ≡ min rate_limit (g.rate + i)
own-is i opened day all g h e =
    let vintage = h.vintage in
    let itself = h.itself in
    rw (vintage, itself, e) refl

-- where no penalty is in force: what Lowers leave of the own rate
rate-is : (i : Option ℕ) (ls : List Lowering) (penalty day : ℕ) (all : List SegmentTerms) (g : SegmentTerms) → is_plan g ≡ false → rate_on i ls penalty [] all day g ≡ capped ls (bears_as g) day (own i all day g)
unfolding rate_on
rate-is i ls penalty day all g e = rw e refl

-- no penalty is in force on a day on which none has a start
no-start : (later : ℕ) (is : List Interval) → starts later is ≡ [] → (i : Interval) → Contains is i → in_force later i ≡ true → ⊥
unfolding starts
no-start later [] e i (k, l, s) f = absurd (omega arith)
no-start later (x ∷ xs) e i (zero, l, s) f = by (in_force later x) (subst (λ y. in_force later y ≡ true) (sym s) f) e
  where
    by : (t : Bool) → t ≡ true → cons_option (cond t (Some x.begins) None) (filter_map (start_of later) xs) ≡ [] → ⊥
    by true u e = absurd (cc)
    by false u e = absurd (cc)
no-start later (x ∷ xs) e i (suc k, l, s) f = by (in_force later x) e (λ d. no-start later xs d i (k, omega arith, s) f)
  where
    by : (t : Bool) → cons_option (cond t (Some x.begins) None) (filter_map (start_of later) xs) ≡ [] → (filter_map (start_of later) xs ≡ [] → ⊥) → ⊥
    by true e r = absurd (cc)
    by false e r = r e

module _ (history : List Kept) (issued : List IssuedRow) (shared : SharedRows) (day : ℕ) (g : SegmentTerms) (variable : is_variable history ≡ true) (opened : (anchor_of history).opened ≤ day)
    (there : Contains (segments_on history issued shared day) g) (opening : is_opening g ≡ true) where
  abbrev all : List SegmentTerms
  all = (rates_of shared.holidays history []).segments

  it-is : IsOfTheOpening (anchor_of history).opened day all g
  it-is =
      let are = segments-are (anchor_of history) (terms_of history) shared.holidays history in
      let every = subst (λ gs. Contains gs g) are (segments_of_a_day.stay history issued shared day g there) in
      subst (λ gs. IsOfTheOpening (anchor_of history).opened day gs g) (sym are)
      (opening-is (anchor_of history).opened day (terms_of history) (added_from 1 5 history) g (added-by-number 1 5 history) opened every opening)

  abbrev lowers : List Lowering
  lowers = lowerings (corrected (anchor_of history) shared.holidays history)

  -- without a penalty in force
  rate-at : starts day (book history issued shared day).penalties ≡ [] → rate_at history issued shared day g ≡ capped lowers (bears_as g) day (own (Some (index_at shared day)) all day g)
  rate-at none =
      sym (rates_later history issued shared day day g (omega arith))
      ∙ (rw (none, variable) (rate-is (Some (index_at shared day)) lowers (terms_of history).penalty day all g it-is.vintage))

  own-rate : (own (Some (index_at shared day)) all day g).rate ≡ margin_and_index shared day g
  own-rate = own-is (index_at shared day) (anchor_of history).opened day all g it-is opening

  most : starts day (book history issued shared day).penalties ≡ [] → rate_at history issued shared day g ≤ margin_and_index shared day g
  most none =
      let rate = rate-at none in
      let low = capped-low lowers (bears_as g) day (own (Some (index_at shared day)) all day g) in
      let is = own-rate in
      omega (arith, rate, low, is)

  exact : starts day (book history issued shared day).penalties ≡ [] → lowers ≡ [] → rate_at history issued shared day g ≡ margin_and_index shared day g
  exact none no-lower =
      rate-at none
      ∙ (ap (λ ls. capped ls (bears_as g) day (own (Some (index_at shared day)) all day g)) no-lower ∙ (capped-none (bears_as g) day (own (Some (index_at shared day)) all day g) ∙ own-rate))

  rises : (later : ℕ) → AreNotices history → day ≤ later → starts later (book history issued shared later).penalties ≡ []
      → rate_at history issued shared day g < rate_at history issued shared later g → index_at shared day < index_at shared later
  rises later notices l none rise = by (rates_rise_by_exceptions_alone history issued shared day later g notices opened l there begun rise)
    where
      begun : g.begins ≤ day
      begun = let b = it-is.begins in omega (arith, b, opened)

      by : IndexRose history shared day later g ⊎ MayRise (book history issued shared later).penalties day later g → index_at shared day < index_at shared later
      by (inl r) = r.rose
      by (inr (inl ended)) = absurd (let p = ended.plan in let v = it-is.vintage in cc)
      by (inr (inr (inl took))) = let after = took.after in let e = it-is.effective in absurd (omega (arith, after, e, opened))
      by (inr (inr (inr has))) = absurd (no-start later (book history issued shared later).penalties none has.penalty has.is has.lasts)

pub rates_follow_the_index : RatesFollowTheIndex
rates_follow_the_index history issued shared day g variable opened there opening = record {
  most = most history issued shared day g variable opened there opening;
  exact = exact history issued shared day g variable opened there opening;
  rises = rises history issued shared day g variable opened there opening;
}
