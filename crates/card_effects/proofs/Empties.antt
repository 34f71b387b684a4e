-- A holding without a balance, which wasn't paid, may be left out of what a payment reaches.
use Rattle.std.proofs.Common.{◌≡◌, ℕ, zero, suc, ◌+◌, ◌-◌, ◌<◌, ◌≤◌, Bool, true, false, cond, ◌&&◌, List, [], ◌∷◌, refl, sym, ap, ◌∙◌, subst, arith, eqb, ltb, Option, Some, None}
use Rattle.std.specs.List.{All, Contains, cons_option, filter, filter_map}
use Rattle.std.specs.Option.{option_or}
use Rattle.std.proofs.lemmas.Bool.{false≢true, eqb-true}
use Rattle.std.proofs.lemmas.Bool.Decides.{nat_tests}
use Rattle.std.proofs.lemmas.List.Elements.{All-nil, All-cons, All-head, All-tail, All-weaker}
use Rattle.card_bounds.proofs.Reached.{takes-ascends}
use Rattle.card_model.specs.Allocation.{Ascends, Paying, all_pass, allocated, best, choose, excess_rule, higher_rate, is_last_two, lower_rate, minimum_rule, never, paid_at, paid_on, part_of, parts, pay, place_rule, placed, sooner_end, takes, untouched}
use Rattle.card_model.specs.declared.holding.Holding.{Holding}
use Rattle.card_model.proofs.Signs.{excess-chooses, minimum-chooses, place-chooses}
use Rattle.card_model.proofs.WholeParts.{paid_at-ascends}

-- what has a balance, or was paid
abbrev pub counts : Holding → Bool
counts h = ltb 0 (h.balance + h.paid)

empty : (h : Holding) → counts h ≡ false → (ltb 0 h.balance ≡ false) × (eqb h.paid 0 ≡ true)
empty h e = (grind (arith, nat_tests), grind (arith, nat_tests))

-- ---- rules
best-full : (p : Holding → Bool) (before : Holding → Holding → Bool) (hs : List Holding) → best p before (filter counts hs) ≡ best p before hs
unfolding best
best-full p before [] = refl
best-full p before (h ∷ hs) = by (counts h) refl (best-full p before hs)
  where
    by : (t : Bool) → counts h ≡ t → best p before (filter counts hs) ≡ best p before hs
        → best p before (cond t (h ∷ filter counts hs) (filter counts hs)) ≡ cond (ltb 0 h.balance && p h) (Some (choose before h (best p before hs))) (best p before hs)
    by true e ih = ap (λ o. cond (ltb 0 h.balance && p h) (Some (choose before h o)) o) ih
    by false e ih = rw (empty h e).0 ih

-- a rule that sees no such holdings
abbrev pub SeesFull : (List Holding → Option Holding) → Type 0
SeesFull rule = (hs : List Holding) → rule (filter counts hs) ≡ rule hs

minimum-full : SeesFull minimum_rule
minimum-full hs = best-full all_pass lower_rate hs

excess-full : SeesFull excess_rule
excess-full hs = ap (λ o. option_or o (best all_pass higher_rate (filter counts hs))) (best-full is_last_two sooner_end hs) ∙ ap (λ o. option_or (best is_last_two sooner_end hs) o) (best-full all_pass higher_rate hs)

place-full : SeesFull place_rule
place-full hs = ap (λ o. option_or o (excess_rule (filter counts hs))) (best-full (λ h. h.of_place) never hs) ∙ ap (λ o. option_or (best (λ h. h.of_place) never hs) o) (excess-full hs)

-- ---- one cent
abbrev Chooses : (List Holding → Option Holding) → Type 0
Chooses rule = (low : ℕ) (hs : List Holding) (h : Holding) → Ascends low hs → rule hs ≡ Some h → (Contains hs h) × (0 < h.balance)

above : (m low : ℕ) (hs : List Holding) → m ≤ low → Ascends low hs → All (λ (y : Holding). m ≤ y.id) hs
above m low [] l a = All-nil (λ (y : Holding). m ≤ y.id)
above m low (x ∷ hs) l a = All-cons (λ (y : Holding). m ≤ y.id) x hs (let k = a.0 in omega arith) (above m (x.id + 1) hs (let k = a.0 in omega arith) a.1)

high-of : (low : ℕ) (hs : List Holding) (h : Holding) → Ascends low hs → Contains hs h → low ≤ h.id
high-of low [] h a (k, l, e) = absurd (omega arith)
high-of low (x ∷ hs) h a (zero, l, e) = subst (λ (g : Holding). low ≤ g.id) e a.0
high-of low (x ∷ hs) h a (suc k, l, e) = let more = high-of (x.id + 1) hs h a.1 (k, omega arith, e) in let m = a.0 in omega arith

-- the number is of this holding alone
alone : (low : ℕ) (hs : List Holding) (h : Holding) → Ascends low hs → Contains hs h → 0 < h.balance → All (λ (x : Holding). x.id ≡ h.id → 0 < x.balance) hs
alone low [] h a c b = All-nil (λ (x : Holding). x.id ≡ h.id → 0 < x.balance)
alone low (x ∷ hs) h a (zero, l, e) b =
    let same : x.id ≡ h.id = ap (λ (z : Holding). z.id) e in
    All-cons (λ (x : Holding). x.id ≡ h.id → 0 < x.balance) x hs (λ q. subst (λ (z : Holding). 0 < z.balance) (sym e) b)
    (All-weaker (λ (y : Holding). suc x.id ≤ y.id) (λ (y : Holding). y.id ≡ h.id → 0 < y.balance) (λ y m q. absurd (omega arith)) hs (above (suc x.id) (x.id + 1) hs (omega arith) a.1))
alone low (x ∷ hs) h a (suc k, l, e) b =
    let c : Contains hs h = (k, omega arith, e) in
    let high = high-of (x.id + 1) hs h a.1 c in
    All-cons (λ (x : Holding). x.id ≡ h.id → 0 < x.balance) x hs (λ q. absurd (omega arith)) (alone (x.id + 1) hs h a.1 c b)

paid-full : (id : ℕ) (hs : List Holding) → All (λ (x : Holding). x.id ≡ id → 0 < x.balance) hs → paid_at id 1 (filter counts hs) ≡ filter counts (paid_at id 1 hs)
unfolding paid_at
paid-full id [] a = refl
paid-full id (x ∷ hs) a = by (eqb x.id id) (counts x) refl refl (paid-full id hs (All-tail (λ (x : Holding). x.id ≡ id → 0 < x.balance) x hs a)) (All-head (λ (x : Holding). x.id ≡ id → 0 < x.balance) x hs a)
  where
    some : 0 < x.balance → (counts x ≡ true) × (counts (paid_on 1 x) ≡ true)
    some l = (grind (arith, nat_tests), grind (arith, nat_tests))

    by : (t u : Bool) → eqb x.id id ≡ t → counts x ≡ u → paid_at id 1 (filter counts hs) ≡ filter counts (paid_at id 1 hs) → (x.id ≡ id → 0 < x.balance)
        → paid_at id 1 (cond u (x ∷ filter counts hs) (filter counts hs)) ≡ filter counts (cond t (paid_on 1 x) x ∷ paid_at id 1 hs)
    by true true e f ih p = let s = some (p (eqb-true x.id id e)) in rw (e, s.1, ih) refl
    by true false e f ih p = let s = some (p (eqb-true x.id id e)) in absurd (false≢true (sym f ∙ s.0))
    by false true e f ih p = rw (e, f, ih) refl
    by false false e f ih p = rw (f, ih) refl

-- without them
abbrev pub full : Paying → Paying
full s = record { left = filter counts s.left; credit = s.credit }

takes-full : (low : ℕ) (s : Paying) (o : Option Holding) → Ascends low s.left → ((h : Holding) → o ≡ Some h → (Contains s.left h) × (0 < h.balance)) → takes 1 (full s) o ≡ full (takes 1 s o)
takes-full low s None a c = refl
takes-full low s (Some h) a c =
    let found = c h refl in
    ap (λ (us : List Holding). record { left = us; credit = s.credit }) (paid-full h.id s.left (alone low s.left h a found.0 found.1))

-- ---- an amount
pay-ascends : (rule : List Holding → Option Holding) (n low : ℕ) (s : Paying) → Ascends low s.left → Ascends low (pay rule n s).left
unfolding pay
pay-ascends rule zero low s a = a
pay-ascends rule (suc n) low s a = pay-ascends rule n low (takes 1 s (rule s.left)) (takes-ascends low s (rule s.left) a)

pay-full : (rule : List Holding → Option Holding) → SeesFull rule → Chooses rule → (n low : ℕ) (s : Paying) → Ascends low s.left → pay rule n (full s) ≡ full (pay rule n s)
unfolding pay
pay-full rule sees c zero low s a = refl
pay-full rule sees c (suc n) low s a =
    ap (λ o. pay rule n (takes 1 (full s) o)) (sees s.left)
    ∙ (ap (pay rule n) (takes-full low s (rule s.left) a (λ h e. c low s.left h a e))
    ∙ pay-full rule sees c n low (takes 1 s (rule s.left)) (takes-ascends low s (rule s.left) a))

parts-full : (s : Paying) → parts (full s) ≡ parts s
parts-full s = ap (λ ps. cond (eqb s.credit 0) ps ((0, s.credit) ∷ ps)) (over s.left)
  where
    over : (hs : List Holding) → filter_map part_of (filter counts hs) ≡ filter_map part_of hs
    over [] = refl
    over (h ∷ hs) = by (counts h) refl (over hs)
      where
        by : (t : Bool) → counts h ≡ t → filter_map part_of (filter counts hs) ≡ filter_map part_of hs
            → filter_map part_of (cond t (h ∷ filter counts hs) (filter counts hs)) ≡ cons_option (cond (eqb h.paid 0) None (Some (h.id, h.paid))) (filter_map part_of hs)
        by true e ih = ap (cons_option (part_of h)) ih
        by false e ih = rw (empty h e).1 ih

pub allocated-full : (minimum amount low : ℕ) (hs : List Holding) → Ascends low hs → allocated minimum amount (filter counts hs) ≡ allocated minimum amount hs
allocated-full minimum amount low hs a =
    let first = pay minimum_rule minimum (untouched hs) in
    ap (λ (s : Paying). parts (pay excess_rule (amount - minimum) s)) (pay-full minimum_rule minimum-full minimum-chooses minimum low (untouched hs) a)
    ∙ (ap parts (pay-full excess_rule excess-full excess-chooses (amount - minimum) low first (pay-ascends minimum_rule minimum low (untouched hs) a))
    ∙ parts-full (pay excess_rule (amount - minimum) first))

pub placed-full : (amount low : ℕ) (hs : List Holding) → Ascends low hs → placed amount (filter counts hs) ≡ placed amount hs
placed-full amount low hs a = ap parts (pay-full place_rule place-full place-chooses amount low (untouched hs) a) ∙ parts-full (pay place_rule amount (untouched hs))
