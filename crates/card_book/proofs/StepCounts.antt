-- Steps of folds that follow each other, and how many they are at most.
use Rattle.std.proofs.Common.{◌≡◌, ℕ, zero, suc, ◌+◌, ◌-◌, ◌<◌, ◌≤◌, Bool, true, false, cond, not, ◌&&◌, ◌||◌, nat_le, refl, sym, ap, ◌∙◌, subst, arith, ◌⊎◌, inl, inr}
use Rattle.std.specs.List.{range_with_len}
use Rattle.std.proofs.lemmas.Bool.{and_right, cases_lt, le-leb}
use Rattle.std.proofs.lemmas.List.Sums.{sum_by-cons}
use Rattle.card_events.specs.Range.{last_request_day}
use Rattle.card_events.specs.History.{anchor_of}
use Rattle.card_model.specs.Breaks.{breaks_among}
use Rattle.card_model.specs.CycleDays.{IsOpening}
use Rattle.card_model.specs.Spans.{steps_among}
use Rattle.card_model.proofs.BreakDays.{break_days_stay}
use Rattle.card_daily.specs.Given.{Given}
use Rattle.card_book.specs.StepCounts.{StepsAddUp, breaks_either}
use Rattle.card_book.specs.Stands.{breaks_of}

-- ---- numbers alone
no-days : (x : ℕ) → x ≡ 0 + x
no-days x = omega arith

add-split : (x y z u v a : ℕ) → x ≡ a + u → y ≡ a + v → u ≡ v + z → x ≡ y + z
add-split x y z u v a e f h = omega arith

add-steps : (a s b t c u d : ℕ) → a ≡ d → s ≡ 0 → c ≡ d + b → t ≡ u → a + s + (b + t) ≡ c + u
add-steps a s b t c u d e f h i = omega arith

no-more : (x y : ℕ) → x ≡ 0 → x ≤ y
no-more x y e = omega arith

same-most : (x y : ℕ) → x ≡ y → x ≤ y
same-most x y e = omega arith

part-most : (x y a : ℕ) → y ≡ a + x → x ≤ y
part-most x y a e = omega arith

then-most : (x y z w : ℕ) → x ≡ y → y ≤ z → z ≤ w → x ≤ w
then-most x y z w e l m = omega arith

add-most : (x y a b : ℕ) → x ≤ y → a ≤ b → x + a ≤ y + b
add-most x y a b l m = omega arith

both-most : (a b c d x y : ℕ) → x ≡ a + b → y ≡ c + d → a ≤ c → b ≤ d → x ≤ y
both-most a b c d x y e f l m = omega arith

-- ---- break days one after the other
first-of : (p : ℕ → Bool) (first n : ℕ) → breaks_among p first (suc n) ≡ cond (p first) 1 0 + breaks_among p (first + 1) n
first-of p first n = sum_by-cons (λ x. cond (p x) 1 0) first (range_with_len (first + 1) n)

-- of so many days and so many more
split-days : (p : ℕ → Bool) (n m first : ℕ) → breaks_among p first (n + m) ≡ breaks_among p first n + breaks_among p (first + n) m
split-days p zero m first =
    let none : 0 + m ≡ m = omega arith in
    let here : first + 0 ≡ first = omega arith in
    ap (breaks_among p first) none ∙ (no-days (breaks_among p first m) ∙ ap (λ d. 0 + breaks_among p d m) (sym here))
split-days p (suc n) m first =
    let more : suc n + m ≡ suc (n + m) = omega arith in
    let next : first + 1 + n ≡ first + suc n = omega arith in
    add-split (breaks_among p first (suc n + m)) (breaks_among p first (suc n)) (breaks_among p (first + suc n) m) (breaks_among p (first + 1) (n + m)) (breaks_among p (first + 1) n) (cond (p first) 1 0)
    (ap (breaks_among p first) more ∙ first-of p first (n + m)) (first-of p first n) (split-days p n m (first + 1) ∙ ap (λ d. breaks_among p (first + 1) n + breaks_among p d m) next)

-- two tests that agree up to a day
same-days : (p q : ℕ → Bool) (n first day : ℕ) → first + n ≤ day + 1 → ((x : ℕ) → x ≤ day → q x ≡ p x) → breaks_among q first n ≡ breaks_among p first n
same-days p q zero first day l same = refl
same-days p q (suc n) first day l same =
    first-of q first n
    ∙ (ap (λ b. cond b 1 0 + breaks_among q (first + 1) n) (same first (omega (arith, l)))
    ∙ (ap (λ k. cond (p first) 1 0 + k) (same-days p q n (first + 1) day (omega (arith, l)) same) ∙ sym (first-of p first n)))

-- ---- steps to a break day and from there on
abbrev one_if : Bool → ℕ
one_if b = cond b 1 0

-- the last day takes a step more where it is no break day
abbrev last_step : (ℕ → Bool) → ℕ → ℕ → ℕ
last_step p first to = one_if (nat_le first to && not (p to))

last-break : (p : ℕ → Bool) (first to : ℕ) → p to ≡ true → last_step p first to ≡ 0
last-break p first to e =
    let none : nat_le first to && not (p to) ≡ false = and_right (nat_le first to) (not (p to)) (ap not e) in
    ap one_if none

last-later : (p : ℕ → Bool) (first later to : ℕ) → first ≤ to → later ≤ to → last_step p later to ≡ last_step p first to
last-later p first later to l m = ap (λ b. one_if (b && not (p to))) (le-leb later to m ∙ sym (le-leb first to l))

join-steps : (p q : ℕ → Bool) (first day to : ℕ) → first ≤ day + 1 → day ≤ to → p day ≡ true → ((x : ℕ) → x ≤ day → q x ≡ p x)
    → steps_among q first day + steps_among p (day + 1) to ≡ steps_among p first to
join-steps p q first day to low l e same =
    let days : to + 1 - first ≡ day + 1 - first + (to + 1 - (day + 1)) = omega (arith, low, l) in
    let next : first + (day + 1 - first) ≡ day + 1 = omega (arith, low) in
    add-steps (breaks_among q first (day + 1 - first)) (last_step q first day) (breaks_among p (day + 1) (to + 1 - (day + 1))) (last_step p (day + 1) to) (breaks_among p first (to + 1 - first)) (last_step p first to) (breaks_among p first (day + 1 - first))
    (same-days p q (day + 1 - first) first day (omega (arith, next)) same) (last-break q first day (same day (omega arith) ∙ e))
    (ap (breaks_among p first) days ∙ (split-days p (day + 1 - first) (to + 1 - (day + 1)) first ∙ ap (λ d. breaks_among p first (day + 1 - first) + breaks_among p d (to + 1 - (day + 1))) next))
    (by (cases_lt day to))
  where
    by : (day < to) ⊎ (to ≤ day) → last_step p (day + 1) to ≡ last_step p first to
    by (inl less) = last-later p first (day + 1) to (omega (arith, low, less)) (omega (arith, less))
    by (inr more) =
        let here : day ≡ to = omega (arith, l, more) in
        let passes : p to ≡ true = ap p (sym here) ∙ e in
        last-break p (day + 1) to passes ∙ sym (last-break p first to passes)

-- every later day's book tells of a day what an earlier one's, from that day on, tells
told-alike : (g : Given) (x day to : ℕ) → IsOpening (anchor_of g.history) → x ≤ day → day ≤ to → to ≤ last_request_day → breaks_of g day x ≡ breaks_of g to x
told-alike g x day to open' low l last =
    break_days_stay g.history g.issued g.shared x day open' low (omega (arith, l, last))
    ∙ sym (break_days_stay g.history g.issued g.shared x to open' (omega (arith, low, l)) (omega (arith, last)))

-- ---- how many there are at most
less-first : (p : ℕ → Bool) (low to : ℕ) → breaks_among p (low + 1) (to + 1 - (low + 1)) ≤ breaks_among p low (to + 1 - low)
less-first p low to = by (cases_lt to low)
  where
    by : (to < low) ⊎ (low ≤ to) → breaks_among p (low + 1) (to + 1 - (low + 1)) ≤ breaks_among p low (to + 1 - low)
    by (inl l) =
        let none : to + 1 - (low + 1) ≡ 0 = omega (arith, l) in
        no-more (breaks_among p (low + 1) (to + 1 - (low + 1))) (breaks_among p low (to + 1 - low)) (ap (breaks_among p (low + 1)) none)
    by (inr l) =
        let next : to + 1 - low ≡ suc (to + 1 - (low + 1)) = omega (arith, l) in
        part-most (breaks_among p (low + 1) (to + 1 - (low + 1))) (breaks_among p low (to + 1 - low)) (cond (p low) 1 0)
        (ap (breaks_among p low) next ∙ first-of p low (to + 1 - (low + 1)))

less-from : (p : ℕ → Bool) (d low to : ℕ) → breaks_among p (low + d) (to + 1 - (low + d)) ≤ breaks_among p low (to + 1 - low)
less-from p zero low to =
    let here : low + 0 ≡ low = omega arith in
    same-most (breaks_among p (low + 0) (to + 1 - (low + 0))) (breaks_among p low (to + 1 - low)) (ap (λ x. breaks_among p x (to + 1 - x)) here)
less-from p (suc d) low to =
    let here : low + suc d ≡ low + 1 + d = omega arith in
    then-most (breaks_among p (low + suc d) (to + 1 - (low + suc d))) (breaks_among p (low + 1 + d) (to + 1 - (low + 1 + d))) (breaks_among p (low + 1) (to + 1 - (low + 1))) (breaks_among p low (to + 1 - low))
    (ap (λ x. breaks_among p x (to + 1 - x)) here) (less-from p d (low + 1) to) (less-first p low to)

fewer : (p : ℕ → Bool) (low first to : ℕ) → low ≤ first → breaks_among p first (to + 1 - first) ≤ breaks_among p low (to + 1 - low)
fewer p low first to l =
    let place : low + (first - low) ≡ first = omega (arith, l) in
    subst (λ x. breaks_among p x (to + 1 - x) ≤ breaks_among p low (to + 1 - low)) place (less-from p (first - low) low to)

one-more : (b : Bool) → cond b 1 0 ≤ 1
one-more true = omega arith
one-more false = omega arith

few-steps : (p : ℕ → Bool) (low first to : ℕ) → low ≤ first → steps_among p first to ≤ breaks_among p low (to + 1 - low) + 1
few-steps p low first to l =
    add-most (breaks_among p first (to + 1 - first)) (breaks_among p low (to + 1 - low)) (cond (nat_le first to && not (p to)) 1 0) 1 (fewer p low first to l) (one-more (nat_le first to && not (p to)))

-- a test that passes wherever another does
no-less : (p q : ℕ → Bool) (n first : ℕ) → ((x : ℕ) → cond (p x) 1 0 ≤ cond (q x) 1 0) → breaks_among p first n ≤ breaks_among q first n
no-less p q zero first h = omega arith
no-less p q (suc n) first h =
    both-most (cond (p first) 1 0) (breaks_among p (first + 1) n) (cond (q first) 1 0) (breaks_among q (first + 1) n) (breaks_among p first (suc n)) (breaks_among q first (suc n))
    (first-of p first n) (first-of q first n) (h first) (no-less p q n (first + 1) h)

either-left : (a b : Bool) → cond a 1 0 ≤ cond (a || b) 1 0
either-left true b = omega arith
either-left false true = omega arith
either-left false false = omega arith

either-right : (a b : Bool) → cond b 1 0 ≤ cond (a || b) 1 0
either-right true true = omega arith
either-right true false = omega arith
either-right false true = omega arith
either-right false false = omega arith

pub steps_add_up : StepsAddUp
steps_add_up = record {
  join = λ g first middle to open' low l last e.
      join-steps (breaks_of g to) (breaks_of g middle) first middle to low l e (λ x b. told-alike g x middle to open' b l last);
  few = λ g low first to l. few-steps (breaks_of g to) low first to l;
  wider = λ old new low first to l. fewer (breaks_either old new to) low first to l;
  before = λ old new first to. no-less (breaks_of old to) (breaks_either old new to) (to + 1 - first) first (λ x. either-left (breaks_of old to x) (breaks_of new to x));
  after = λ old new first to. no-less (breaks_of new to) (breaks_either old new to) (to + 1 - first) first (λ x. either-right (breaks_of old to x) (breaks_of new to x));
}
