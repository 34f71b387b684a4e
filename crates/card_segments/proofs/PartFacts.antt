-- The parts of an amount: they ascend, sum to it, and are of segments that can bear them.
use Rattle.std.proofs.Common.{◌≡◌, ℕ, zero, suc, ◌+◌, ◌-◌, ◌<◌, ◌≤◌, Bool, true, false, cond, List, [], ◌∷◌, ◌++◌, length, drop, refl, sym, ap, ◌∙◌, subst, arith, eqb, eq-eqb, get_or, get_or-drop, take, Option, Some, None, ℤ, pos, negsuc}
use Rattle.std.specs.Prelude.{◌≤ℤ◌}
use Rattle.std.specs.List.{All, Contains, filter, filter_map, cons_option}
use Rattle.std.proofs.lemmas.Int.{ints}
use Rattle.std.proofs.lemmas.List.{drop_all}
use Rattle.std.proofs.lemmas.Bool.{eqb-true, ne_eqb}
use Rattle.std.proofs.lemmas.List.Elements.{All-nil, All-cons, All-head, All-tail, All-weaker}
use Rattle.card_model.proofs.PartsSum.{paid_sum}
use Rattle.card_model.specs.Allocation.{Ascends, Paying, allocated, excess_rule, minimum_rule, paid_at, part_of, parts, pay, place_rule, placed, takes, untouched}
use Rattle.card_model.specs.Entries.{at_least_zero}
use Rattle.card_model.specs.declared.holding.Holding.{Holding}
use Rattle.card_model.proofs.Signs.{excess-chooses, minimum-chooses, pay-within, place-chooses}
use Rattle.card_model.proofs.WholeParts.{paid_at-ascends, paid_at-other}
use Rattle.card_segments.specs.Holdings.{counts, holdings, holdings_from}
use Rattle.card_segments.specs.Parts.{AreCovered, AreOnSegments, AreParts, Ascend, IsOnSegment, parts_sum}
use Rattle.card_segments.specs.declared.rank.Rank.{Rank}
use Rattle.card_segments.proofs.Counted.{allocated-counted, contains-high, placed-counted}
use Rattle.card_segments.proofs.HoldingLists.{holdings-ascend}

abbrev total_of : Paying → ℕ
total_of s = s.credit + paid_sum s.left

paid_at-sum : (n low : ℕ) (hs : List Holding) (h : Holding) → Ascends low hs → Contains hs h → paid_sum (paid_at h.id n hs) ≡ paid_sum hs + n
unfolding paid_at
paid_at-sum n low [] h a (k, l, e) = absurd (omega arith)
paid_at-sum n low (x ∷ hs) h a (zero, l, e) =
    let here : eqb x.id h.id ≡ true = eq-eqb x.id h.id (ap (λ (g : Holding). g.id) e) in
    let same : x.id ≡ h.id = ap (λ (g : Holding). g.id) e in
    rw (here, paid_at-other h.id n (x.id + 1) hs (omega arith) a.1) (omega arith)
paid_at-sum n low (x ∷ hs) h a (suc k, l, e) =
    let c : Contains hs h = (k, omega arith, e) in
    let more = contains-high (x.id + 1) hs h a.1 c in
    let other : eqb x.id h.id ≡ false = ne_eqb x.id h.id (λ q. omega arith) in
    rw (other, paid_at-sum n (x.id + 1) hs h a.1 c) (omega arith)

-- a rule that chooses one that can be paid
abbrev Chooses : (List Holding → Option Holding) → Type 0
Chooses rule = (low : ℕ) (hs : List Holding) (h : Holding) → Ascends low hs → rule hs ≡ Some h → (Contains hs h) × (0 < h.balance)

pay-total : (rule : List Holding → Option Holding) → Chooses rule → (n low : ℕ) (s : Paying) → Ascends low s.left → total_of (pay rule n s) ≡ total_of s + n
unfolding pay
pay-total rule c zero low s a = omega arith
pay-total rule c (suc n) low s a = by (rule s.left) refl (λ t b. pay-total rule c n low t b)
  where
    by : (o : Option Holding) → rule s.left ≡ o → ((t : Paying) → Ascends low t.left → total_of (pay rule n t) ≡ total_of t + n) → total_of (pay rule n (takes 1 s o)) ≡ total_of s + suc n
    by None q ih = let rest = ih (takes 1 s None) a in rest ∙ omega arith
    by (Some h) q ih =
        let rest = ih (takes 1 s (Some h)) (paid_at-ascends h.id 1 low s.left a) in
        let one = paid_at-sum 1 low s.left h a (c low s.left h a q).0 in
        rest ∙ omega (arith, one)

parts_of-sum : (hs : List Holding) → parts_sum (filter_map part_of hs) ≡ paid_sum hs
parts_of-sum [] = refl
parts_of-sum (h ∷ hs) = by (eqb h.paid 0) refl (parts_of-sum hs)
  where
    by : (t : Bool) → eqb h.paid 0 ≡ t → parts_sum (filter_map part_of hs) ≡ paid_sum hs → parts_sum (cons_option (cond t None (Some (h.id, h.paid))) (filter_map part_of hs)) ≡ h.paid + paid_sum hs
    by true e i = let none : h.paid ≡ 0 = eqb-true h.paid 0 e in omega arith
    by false e i = omega arith

parts-sum : (s : Paying) → parts_sum (parts s) ≡ total_of s
parts-sum s = by (eqb s.credit 0) refl
  where
    by : (t : Bool) → eqb s.credit 0 ≡ t → parts_sum (cond t (filter_map part_of s.left) ((0, s.credit) ∷ filter_map part_of s.left)) ≡ s.credit + paid_sum s.left
    by true e = let none : s.credit ≡ 0 = eqb-true s.credit 0 e in omega (arith, parts_of-sum s.left)
    by false e = omega (arith, parts_of-sum s.left)

-- ---- they ascend
list-ascends : (low : ℕ) (hs : List Holding) → Ascends low hs → Ascend low (filter_map part_of hs)
list-ascends low [] a = tt
list-ascends low (h ∷ hs) a = by (eqb h.paid 0) (list-ascends (h.id + 1) hs a.1)
  where
    lower : (low more : ℕ) (ps : List (ℕ × ℕ)) → low ≤ more → Ascend more ps → Ascend low ps
    lower low more [] l r = tt
    lower low more (p ∷ ps) l r = (let m = r.0 in omega arith, r.1)

    by : (t : Bool) → Ascend (h.id + 1) (filter_map part_of hs) → Ascend low (cons_option (cond t None (Some (h.id, h.paid))) (filter_map part_of hs))
    by true r = lower low (h.id + 1) (filter_map part_of hs) (let m = a.0 in omega arith) r
    by false r = (a.0, r)

parts-ascend : (s : Paying) → Ascends 2 s.left → Ascend 0 (parts s)
parts-ascend s a = by (eqb s.credit 0) (list-ascends 2 s.left a)
  where
    lower : (low more : ℕ) (ps : List (ℕ × ℕ)) → low ≤ more → Ascend more ps → Ascend low ps
    lower low more [] l r = tt
    lower low more (p ∷ ps) l r = (let m = r.0 in omega arith, r.1)

    by : (t : Bool) → Ascend 2 (filter_map part_of s.left) → Ascend 0 (cond t (filter_map part_of s.left) ((0, s.credit) ∷ filter_map part_of s.left))
    by true r = lower 0 2 (filter_map part_of s.left) (omega arith) r
    by false r = (omega arith, lower 1 2 (filter_map part_of s.left) (omega arith) r)

-- ---- segments bear them
abbrev owed_of : List ℤ → ℕ → ℕ
owed_of bs s = at_least_zero (get_or bs s (pos 0))

abbrev Within : (ℕ → ℕ) → Holding → Type 0
Within owed h = h.paid + h.balance ≤ owed h.id

-- a part on a segment that is there, covered by its balance
abbrev IsBorne : List ℤ → ℕ × ℕ → Type 0
IsBorne bs p = IsOnSegment (length bs) p × (1 ≤ p.0 → pos p.1 ≤ℤ get_or bs p.0 (pos 0))

within-borne : (bs : List ℤ) (s x : ℕ) → 2 ≤ s → 1 ≤ x → x ≤ owed_of bs s → IsBorne bs (s, x)
within-borne bs s x l m w = ((λ e. omega arith, inside bs s (omega arith)), λ k. below (get_or bs s (pos 0)) x m w)
  where
    inside : (bs : List ℤ) (s : ℕ) → 1 ≤ owed_of bs s → s < length bs
    inside [] s h = absurd (omega arith)
    inside (b ∷ bs) zero h = omega arith
    inside (b ∷ bs) (suc s) h = let m = inside bs s h in omega arith

    below : (b : ℤ) (x : ℕ) → 1 ≤ x → x ≤ at_least_zero b → pos x ≤ℤ b
    below (pos n) x m w = omega (arith, ints)
    below (negsuc n) x m w = absurd (omega arith)

list-borne : (bs : List ℤ) (low : ℕ) (hs : List Holding) → 2 ≤ low → Ascends low hs → All (Within (owed_of bs)) hs → All (IsBorne bs) (filter_map part_of hs)
list-borne bs low [] l a w = All-nil (IsBorne bs)
list-borne bs low (h ∷ hs) l a w =
    by (eqb h.paid 0) refl (All-head (Within (owed_of bs)) h hs w) (list-borne bs (h.id + 1) hs (let m = a.0 in omega arith) a.1 (All-tail (Within (owed_of bs)) h hs w))
  where
    some : (x : ℕ) → eqb x 0 ≡ false → 1 ≤ x
    some zero e = cc
    some (suc x) e = omega arith

    by : (t : Bool) → eqb h.paid 0 ≡ t → Within (owed_of bs) h → All (IsBorne bs) (filter_map part_of hs) → All (IsBorne bs) (cons_option (cond t None (Some (h.id, h.paid))) (filter_map part_of hs))
    by true e k r = r
    by false e k r = All-cons (IsBorne bs) (h.id, h.paid) (filter_map part_of hs) (within-borne bs h.id h.paid (let m = a.0 in omega arith) (some h.paid e) (omega arith)) r

parts-borne : (bs : List ℤ) (s : Paying) → 1 ≤ length bs → Ascends 2 s.left → All (Within (owed_of bs)) s.left → All (IsBorne bs) (parts s)
parts-borne bs s l a w = by (eqb s.credit 0) (list-borne bs 2 s.left (omega arith) a w)
  where
    by : (t : Bool) → All (IsBorne bs) (filter_map part_of s.left) → All (IsBorne bs) (cond t (filter_map part_of s.left) ((0, s.credit) ∷ filter_map part_of s.left))
    by true r = r
    by false r = All-cons (IsBorne bs) (0, s.credit) (filter_map part_of s.left) ((λ e. omega arith, l), λ k. absurd (omega arith)) r

borne-on : (bs : List ℤ) (ps : List (ℕ × ℕ)) → All (IsBorne bs) ps → AreOnSegments (length bs) ps
borne-on bs ps h = All-weaker (IsBorne bs) (IsOnSegment (length bs)) (λ p b. b.0) ps h

borne-covered : (bs : List ℤ) (ps : List (ℕ × ℕ)) → All (IsBorne bs) ps → AreCovered bs ps
borne-covered bs ps h = All-weaker (IsBorne bs) (λ (p : ℕ × ℕ). 1 ≤ p.0 → pos p.1 ≤ℤ get_or bs p.0 (pos 0)) (λ p b. b.1) ps h

-- ---- the holdings of balances
from-within : (all : List ℤ) (place : List ℕ) (i : ℕ) (bs : List ℤ) (rs : List Rank) → ((k : ℕ) → get_or bs k (pos 0) ≡ get_or all (i + k) (pos 0)) → All (Within (owed_of all)) (holdings_from place i bs rs)
from-within all place i [] rs h = All-nil (Within (owed_of all))
from-within all place i (b ∷ bs) [] h = All-nil (Within (owed_of all))
from-within all place i (b ∷ bs) (r ∷ rs) h =
    let plus : i + 0 ≡ i = omega arith in
    let here : b ≡ get_or all i (pos 0) = h 0 ∙ ap (λ k. get_or all k (pos 0)) plus in
    All-cons (Within (owed_of all)) _ (holdings_from place (i + 1) bs rs) (rw here (omega arith))
    (from-within all place (i + 1) bs rs (λ k. h (suc k) ∙ ap (λ j. get_or all j (pos 0)) (shift i k)))
  where
    shift : (i k : ℕ) → i + suc k ≡ i + 1 + k
    shift i k = omega arith

drop-two : (bs : List ℤ) (k : ℕ) → get_or (drop 2 bs) k (pos 0) ≡ get_or bs (2 + k) (pos 0)
drop-two bs k = get_or-drop 2 bs k (pos 0)

unpaid : (place : List ℕ) (i : ℕ) (bs : List ℤ) (rs : List Rank) → paid_sum (holdings_from place i bs rs) ≡ 0
unpaid place i [] rs = refl
unpaid place i (b ∷ bs) [] = refl
unpaid place i (b ∷ bs) (r ∷ rs) = omega (arith, unpaid place (i + 1) bs rs)

-- ---- the parts of an amount
are-parts : (bs : List ℤ) (amount : ℕ) (s : Paying) → 1 ≤ length bs → (All (Within (owed_of bs)) s.left) × Ascends 2 s.left → total_of s ≡ amount → AreParts bs amount (parts s)
are-parts bs amount s l w t =
    let borne = parts-borne bs s l w.1 w.0 in
    record { ascending = parts-ascend s w.1; sum = parts-sum s ∙ t; covered = borne-covered bs (parts s) borne; on_segments = borne-on bs (parts s) borne }

pub allocated-parts : (bs : List ℤ) (rs : List Rank) (minimum amount : ℕ) → 1 ≤ length bs → minimum ≤ amount → AreParts bs amount (allocated minimum amount (holdings [] bs rs))
allocated-parts bs rs minimum amount l m =
    let hs = holdings [] bs rs in
    let a : Ascends 2 hs = holdings-ascend [] 2 2 (drop 2 bs) (drop 2 rs) (omega arith) in
    let w = from-within bs [] 2 (drop 2 bs) (drop 2 rs) (drop-two bs) in
    let s = pay minimum_rule minimum (untouched hs) in
    let first = pay-within (owed_of bs) minimum_rule minimum-chooses minimum 2 (untouched hs) a w in
    let second = pay-within (owed_of bs) excess_rule excess-chooses (amount - minimum) 2 s first.1 first.0 in
    let one = pay-total minimum_rule minimum-chooses minimum 2 (untouched hs) a in
    let two = pay-total excess_rule excess-chooses (amount - minimum) 2 s first.1 in
    are-parts bs amount (pay excess_rule (amount - minimum) s) l second (sums (total_of s) (paid_sum hs) _ minimum amount (unpaid [] 2 (drop 2 bs) (drop 2 rs)) one two m)
  where
    sums : (x p y m n : ℕ) → p ≡ 0 → x ≡ 0 + p + m → y ≡ x + (n - m) → m ≤ n → y ≡ n
    sums x p y m n z a b l = omega arith

pub placed-parts : (bs : List ℤ) (rs : List Rank) (place : List ℕ) (amount : ℕ) → 1 ≤ length bs → AreParts bs amount (placed amount (holdings place bs rs))
placed-parts bs rs place amount l =
    let hs = holdings place bs rs in
    let a : Ascends 2 hs = holdings-ascend place 2 2 (drop 2 bs) (drop 2 rs) (omega arith) in
    let w = from-within bs place 2 (drop 2 bs) (drop 2 rs) (drop-two bs) in
    let first = pay-within (owed_of bs) place_rule place-chooses amount 2 (untouched hs) a w in
    let one = pay-total place_rule place-chooses amount 2 (untouched hs) a in
    are-parts bs amount (pay place_rule amount (untouched hs)) l first (sums (paid_sum hs) _ amount (unpaid place 2 (drop 2 bs) (drop 2 rs)) one)
  where
    sums : (p y n : ℕ) → p ≡ 0 → y ≡ 0 + p + n → y ≡ n
    sums p y n z a = omega arith

-- ---- what the code has made
abbrev pub at : List Holding → ℕ → Paying
at hs credit = record { left = hs; credit = credit }

take-append-all : (n : ℕ) (xs : List Holding) → length xs ≡ n → take n (xs ++ []) ≡ xs
take-append-all zero [] e = refl
take-append-all (suc n) [] e = absurd (omega arith)
take-append-all zero (x ∷ xs) e = absurd (omega arith)
take-append-all (suc n) (x ∷ xs) e = ap (λ (zs : List Holding). x ∷ zs) (take-append-all n xs (omega arith))

-- a list that was lent as a slice
pub written : (n : ℕ) (xs ys : List Holding) → length xs ≡ length ys → length ys ≡ n → take n (xs ++ drop (length xs) ys) ≡ xs
written n xs ys e f =
    let none : drop (length xs) ys ≡ [] = drop_all (length xs) ys (omega arith) in
    rw none (take-append-all n xs (omega arith))

pub placed-is : (bs : List ℤ) (rs : List Rank) (place : List ℕ) (amount credit : ℕ) (hs left : List Holding) (items : List (ℕ × ℕ)) → hs ≡ filter counts (holdings place bs rs) → pay place_rule amount (at hs 0) ≡ at left credit → items ≡ parts (at left credit)
    → items ≡ placed amount (holdings place bs rs)
placed-is bs rs place amount credit hs left items e p q = q ∙ (ap parts (sym p ∙ ap (λ us. pay place_rule amount (at us 0)) e) ∙ placed-counted amount 2 (holdings place bs rs) (holdings-ascend place 2 2 (drop 2 bs) (drop 2 rs) (omega arith)))

pub allocated-is : (bs : List ℤ) (rs : List Rank) (minimum amount first credit : ℕ) (hs mid left : List Holding) (items : List (ℕ × ℕ)) → hs ≡ filter counts (holdings [] bs rs) → pay minimum_rule minimum (at hs 0) ≡ at mid first
    → pay excess_rule (amount - minimum) (at mid first) ≡ at left credit → items ≡ parts (at left credit) → items ≡ allocated minimum amount (holdings [] bs rs)
allocated-is bs rs minimum amount first credit hs mid left items e p r q =
    q
    ∙ (ap parts (sym r ∙ ap (pay excess_rule (amount - minimum)) (sym p ∙ ap (λ us. pay minimum_rule minimum (at us 0)) e))
    ∙ allocated-counted minimum amount 2 (holdings [] bs rs) (holdings-ascend [] 2 2 (drop 2 bs) (drop 2 rs) (omega arith)))

-- the lesser amount is the lesser number
pub least : (a b : ℤ) → a ≤ℤ b → at_least_zero a ≤ at_least_zero b
least (pos m) (pos n) h = omega (arith, ints)
least (pos m) (negsuc n) h = absurd (omega (arith, ints))
least (negsuc m) (pos n) h = omega arith
least (negsuc m) (negsuc n) h = omega arith
