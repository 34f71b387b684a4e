-- Each cent of a payment and of a merchant's credit goes to one part.
use Rattle.std.proofs.Common.{◌≡◌, ℕ, zero, suc, ◌+◌, ◌-◌, ◌≤◌, Bool, true, false, cond, List, [], ◌∷◌, eqb, leb, refl, ap, ◌∙◌, arith, map, Option, Some, None}
use Rattle.std.proofs.lemmas.Bool.{eqb-true, eq-eqb, ne_eqb}
use Rattle.std.proofs.lemmas.List.Sums.{sum_by-cons}
use Rattle.std.specs.Prelude.{min}
use Rattle.std.specs.List.{Contains, cons_option, filter_map}
use Rattle.std.specs.Option.{option_or}
use Rattle.card_events.specs.History.{CorrectedPost, anchor_of, corrected, folded, is_folded}
use Rattle.card_events.specs.SharedRows.{SharedRows}
use Rattle.card_events.specs.declared.kept.Kept.{Kept}
use Rattle.card_events.specs.declared.post.Place.{Place}
use Rattle.card_model.proofs.PartsSum.{SegmentsAscend, holdings-ascend, paid_sum, rises-filter, segments-ascend, slots-rise}
use Rattle.card_model.proofs.WholeParts.{paid_at-ascends, paid_at-other}
use Rattle.card_model.specs.Allocation.{Ascends, Paying, all_pass, allocated, best, excess_rule, lower_rate, minimum_rule, never, paid_at, part_of, parts, pay, place_rule, placed, takes, untouched}
use Rattle.card_model.specs.Books.{Account, Book, account_of, all_segments}
use Rattle.card_model.specs.Cycles.{IssuedRow, Seen, last_cycle}
use Rattle.card_model.specs.Effects.{credit_parts, holding, holdings, payment_parts}
use Rattle.card_model.specs.Payments.{minimum_left}
use Rattle.card_model.specs.Segments.{SegmentTerms}
use Rattle.card_model.specs.declared.holding.Holding.{Holding}
use Rattle.card_rates.specs.Laws.{seen_in}
use Rattle.card_rules.proofs.Excess.{best-chosen, excess-rule}
use Rattle.card_rules.specs.WholePayments.{PaymentsAreEnteredWhole, all_parts}

above : (low : ℕ) (hs : List Holding) (h : Holding) → Ascends low hs → Contains hs h → low ≤ h.id
above low [] h a (k, l, e) = absurd (omega arith)
above low (x ∷ xs) h a (zero, l, e) = let same : x.id ≡ h.id = ap (λ (y : Holding). y.id) e in let at = a.0 in omega (arith, same, at)
above low (x ∷ xs) h a (suc k, l, e) = let at = a.0 in let rest = above (x.id + 1) xs h a.1 (k, omega arith, e) in omega (arith, at, rest)

paid_at-whole : (n low : ℕ) (hs : List Holding) (h : Holding) → Ascends low hs → Contains hs h → paid_sum (paid_at h.id n hs) ≡ paid_sum hs + n
unfolding paid_at
paid_at-whole n low [] h a (k, l, e) = absurd (omega arith)
paid_at-whole n low (x ∷ xs) h a (zero, l, e) =
    let same : x.id ≡ h.id = ap (λ (y : Holding). y.id) e in
    let here : eqb x.id h.id ≡ true = eq-eqb x.id h.id same in
    let rest : paid_at h.id n xs ≡ xs = paid_at-other h.id n (x.id + 1) xs (omega (arith, same)) a.1 in
    rw (here, rest) (omega arith)
paid_at-whole n low (x ∷ xs) h a (suc k, l, e) =
    let c : Contains xs h = (k, omega arith, e) in
    let high = above (x.id + 1) xs h a.1 c in
    let here : eqb x.id h.id ≡ false = ne_eqb x.id h.id (λ q. omega (arith, high, q)) in
    let rest = paid_at-whole n (x.id + 1) xs h a.1 c in
    rw here (omega (arith, rest))

abbrev total_of : Paying → ℕ
total_of s = s.credit + paid_sum s.left

-- a rule gives one of the holdings, or none
abbrev IsOfThem : (List Holding → Option Holding) → Type 0
IsOfThem rule = (hs : List Holding) (h : Holding) → rule hs ≡ Some h → Contains hs h

takes-whole : (low : ℕ) (s : Paying) (o : Option Holding) → Ascends low s.left → ((h : Holding) → o ≡ Some h → Contains s.left h) → (total_of (takes 1 s o) ≡ total_of s + 1) × Ascends low (takes 1 s o).left
takes-whole low s None a there = (omega arith, a)
takes-whole low s (Some h) a there = (let l = paid_at-whole 1 low s.left h a (there h refl) in omega (arith, l), paid_at-ascends h.id 1 low s.left a)

pay-whole : (rule : List Holding → Option Holding) → IsOfThem rule → (n low : ℕ) (s : Paying) → Ascends low s.left → (total_of (pay rule n s) ≡ total_of s + n) × Ascends low (pay rule n s).left
unfolding pay
pay-whole rule of zero low s a = (omega arith, a)
pay-whole rule of (suc n) low s a =
    let one = takes-whole low s (rule s.left) a (of s.left) in
    let rest = pay-whole rule of n low (takes 1 s (rule s.left)) one.1 in
    (chain (total_of s) (total_of (takes 1 s (rule s.left))) _ n one.0 rest.0, rest.1)
  where
    chain : (x y z n : ℕ) → y ≡ x + 1 → z ≡ y + n → z ≡ x + suc n
    chain x y z n l m = omega (arith, l, m)

-- ---- the rules
minimum-of-them : IsOfThem minimum_rule
minimum-of-them hs h e = (best-chosen all_pass lower_rate hs h e).there

excess-of-them : IsOfThem excess_rule
excess-of-them hs h e = (excess-rule hs h e).there

place-of-them : IsOfThem place_rule
place-of-them hs h e = by (best (λ x. x.of_place) never hs) refl e
  where
    by : (o : Option Holding) → best (λ x. x.of_place) never hs ≡ o → option_or o (excess_rule hs) ≡ Some h → Contains hs h
    by (Some g) f e = (best-chosen (λ x. x.of_place) never hs h (f ∙ e)).there
    by None f e = excess-of-them hs h e

-- ---- parts
listed : (hs : List Holding) → all_parts (filter_map part_of hs) ≡ paid_sum hs
listed [] = refl
listed (h ∷ hs) = by (eqb h.paid 0) refl (listed hs)
  where
    by : (t : Bool) → eqb h.paid 0 ≡ t → all_parts (filter_map part_of hs) ≡ paid_sum hs → all_parts (cons_option (cond t None (Some (h.id, h.paid))) (filter_map part_of hs)) ≡ h.paid + paid_sum hs
    by true e i = let none : h.paid ≡ 0 = eqb-true h.paid 0 e in omega (arith, none, i)
    by false e i = let one = sum_by-cons (λ (x : ℕ × ℕ). x.1) (h.id, h.paid) (filter_map part_of hs) in omega (arith, one, i)

parts-whole : (s : Paying) → all_parts (parts s) ≡ total_of s
parts-whole s = by (eqb s.credit 0) refl (listed s.left)
  where
    by : (t : Bool) → eqb s.credit 0 ≡ t → all_parts (filter_map part_of s.left) ≡ paid_sum s.left
        → all_parts (cond t (filter_map part_of s.left) ((0, s.credit) ∷ filter_map part_of s.left)) ≡ s.credit + paid_sum s.left
    by true e i = let none : s.credit ≡ 0 = eqb-true s.credit 0 e in omega (arith, none, i)
    by false e i = let one = sum_by-cons (λ (x : ℕ × ℕ). x.1) (0, s.credit) (filter_map part_of s.left) in omega (arith, one, i)

allocated-whole : (minimum amount low : ℕ) (hs : List Holding) → Ascends low hs → paid_sum hs ≡ 0 → minimum ≤ amount → all_parts (allocated minimum amount hs) ≡ amount
allocated-whole minimum amount low hs a z l =
    let first = pay-whole minimum_rule minimum-of-them minimum low (untouched hs) a in
    let s = pay minimum_rule minimum (untouched hs) in
    let second = pay-whole excess_rule excess-of-them (amount - minimum) low s first.1 in
    let sum = parts-whole (pay excess_rule (amount - minimum) s) in
    close-up (paid_sum hs) (total_of s) (total_of (pay excess_rule (amount - minimum) s)) _ minimum amount z first.0 second.0 sum l
  where
    close-up : (p x y q m n : ℕ) → p ≡ 0 → x ≡ 0 + p + m → y ≡ x + (n - m) → q ≡ y → m ≤ n → q ≡ n
    close-up p x y q m n z a b c l = omega (arith, z, a, b, c, l)

placed-whole : (amount low : ℕ) (hs : List Holding) → Ascends low hs → paid_sum hs ≡ 0 → all_parts (placed amount hs) ≡ amount
placed-whole amount low hs a z =
    let first = pay-whole place_rule place-of-them amount low (untouched hs) a in
    let sum = parts-whole (pay place_rule amount (untouched hs)) in
    close-up (paid_sum hs) (total_of (pay place_rule amount (untouched hs))) _ amount z first.0 sum
  where
    close-up : (p x q n : ℕ) → p ≡ 0 → x ≡ 0 + p + n → q ≡ x → q ≡ n
    close-up p x q n z a c = omega (arith, z, a, c)

unpaid : (a : Account) (seen : Seen) (b : Book) (p : Option Place) (gs : List SegmentTerms) → paid_sum (map (holding a seen b p) gs) ≡ 0
unpaid a seen b p [] = refl
unpaid a seen b p (g ∷ gs) = let rest = unpaid a seen b p gs in omega (arith, rest)

pub ascend : (history : List Kept) (issued : List IssuedRow) (shared : SharedRows) (day : ℕ) → SegmentsAscend 2 (all_segments (account_of history) (seen_in history issued shared day))
ascend history issued shared day =
    let a = anchor_of history in
    segments-ascend (account_of history) (seen_in history issued shared day)
    (rises-filter (λ s. leb s.day day) 5 (folded a shared.holidays history) (rises-filter (λ s. is_folded s.post) 5 (corrected a shared.holidays history) (slots-rise a shared.holidays history 1 5 history)))

pub payment-whole : (a : Account) (seen : Seen) (p : CorrectedPost) (b : Book) → SegmentsAscend 2 (all_segments a seen) → all_parts (payment_parts a seen p b) ≡ p.cents
unfolding payment_parts
payment-whole a seen p b up =
    allocated-whole (min p.cents (minimum_left seen p (last_cycle b.cycles))) p.cents 2 (holdings a seen b None) (holdings-ascend a seen b None 2 (all_segments a seen) up) (unpaid a seen b None (all_segments a seen)) (omega arith)

credit-whole : (a : Account) (seen : Seen) (p : CorrectedPost) (b : Book) (place : Place) → SegmentsAscend 2 (all_segments a seen) → all_parts (credit_parts a seen p place b) ≡ p.cents
unfolding credit_parts
credit-whole a seen p b place up =
    placed-whole p.cents 2 (holdings a seen b (Some place)) (holdings-ascend a seen b (Some place) 2 (all_segments a seen) up) (unpaid a seen b (Some place) (all_segments a seen))

pub payments_are_entered_whole : PaymentsAreEnteredWhole
payments_are_entered_whole history issued shared day p b =
    let up = ascend history issued shared day in
    record { payment = payment-whole (account_of history) (seen_in history issued shared day) p b up; credit = λ place. credit-whole (account_of history) (seen_in history issued shared day) p b place up }
