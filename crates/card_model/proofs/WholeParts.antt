-- Whole parts are many next cents.
use Rattle.std.proofs.Common.{◌≡◌, ℕ, zero, suc, ◌+◌, ◌-◌, ◌<◌, ◌≤◌, Bool, true, false, cond, ◌&&◌, List, [], ◌∷◌, length, refl, sym, ap, ◌∙◌, subst, arith, eqb, ltb, Option, Some, None, eq-eqb, get_or, set}
use Rattle.std.proofs.lemmas.Bool.{ne_eqb}
use Rattle.std.proofs.lemmas.Bool.Decides.{nat_tests}
use Rattle.std.specs.Option.{option_or}
use Rattle.card_model.specs.Allocation.{Ascends, Paying, all_pass, best, choose, excess_rule, higher_rate, is_last_two, lower_rate, minimum_rule, paid_at, paid_on, pay, sooner_end, takes}
use Rattle.card_model.specs.Rates.{lasts}
use Rattle.card_model.specs.declared.holding.Holding.{Holding}

-- a sum of cents is paid in two goes
pub pay-add : (rule : List Holding → Option Holding) (m n : ℕ) (s : Paying) → pay rule (m + n) s ≡ pay rule n (pay rule m s)
unfolding pay
pay-add rule zero n s = let e : 0 + n ≡ n = omega arith in rw e refl
pay-add rule (suc m) n s = let e : suc m + n ≡ suc (m + n) = omega arith in rw e (pay-add rule m n (takes 1 s (rule s.left)))

pub paid_at-other : (id n low : ℕ) (hs : List Holding) → id < low → Ascends low hs → paid_at id n hs ≡ hs
unfolding paid_at
paid_at-other id n low [] l a = refl
paid_at-other id n low (h ∷ hs) l a =
    let other : eqb h.id id ≡ false = ne_eqb h.id id (λ e. omega arith) in
    rw (other, paid_at-other id n (h.id + 1) hs (omega arith) a.1) refl

pub paid_at-ascends : (id n low : ℕ) (hs : List Holding) → Ascends low hs → Ascends low (paid_at id n hs)
unfolding paid_at
paid_at-ascends id n low [] a = tt
paid_at-ascends id n low (h ∷ hs) a = same_id (eqb h.id id) h n low (paid_at id n hs) a.0 (paid_at-ascends id n (h.id + 1) hs a.1)
  where
    same_id : (b : Bool) (h : Holding) (n low : ℕ) (hs : List Holding) → low ≤ h.id → Ascends (h.id + 1) hs → Ascends low (cond b (paid_on n h) h ∷ hs)
    same_id true h n low hs l a = (l, a)
    same_id false h n low hs l a = (l, a)

paid_on-add : (m n : ℕ) (h : Holding) → paid_on n (paid_on m h) ≡ paid_on (m + n) h
paid_on-add m n h =
    let left : h.balance - m - n ≡ h.balance - (m + n) = omega arith in
    let paid : h.paid + m + n ≡ h.paid + (m + n) = omega arith in
    cc

pub paid_at-add : (id m n : ℕ) (hs : List Holding) → paid_at id n (paid_at id m hs) ≡ paid_at id (m + n) hs
unfolding paid_at
paid_at-add id m n [] = refl
paid_at-add id m n (h ∷ hs) = head (eqb h.id id) refl (paid_at-add id m n hs)
  where
    head : (b : Bool) → eqb h.id id ≡ b → {us vs : List Holding} → us ≡ vs → cond (eqb (cond b (paid_on m h) h).id id) (paid_on n (cond b (paid_on m h) h)) (cond b (paid_on m h) h) ∷ us ≡ cond b (paid_on (m + n) h) h ∷ vs
    head true e p = rw (e, p, paid_on-add m n h) refl
    head false e p = rw (e, p) refl

-- ---- what is chosen stays chosen while a cent of it is left
-- a test or an order that payments don't change
pub record Steady (p : Holding → Bool) (before : Holding → Holding → Bool) : Type 0 where
  pub test : (n : ℕ) (h : Holding) → p (paid_on n h) ≡ p h
  pub first : (n : ℕ) (g h : Holding) → before (paid_on n g) h ≡ before g h
  pub second : (n : ℕ) (g h : Holding) → before g (paid_on n h) ≡ before g h

-- whether a holding can be paid
abbrev pub is_open : (Holding → Bool) → Holding → Bool
is_open p h = ltb 0 h.balance && p h

open_after : (p : Holding → Bool) (before : Holding → Holding → Bool) → Steady p before → (n : ℕ) (h : Holding) → n < h.balance → is_open p h ≡ true → is_open p (paid_on n h) ≡ true
open_after p before steady n h l e =
    let more : 0 < h.balance - n = omega arith in
    let tested : ltb 0 (h.balance - n) ≡ true = grind (arith, nat_tests) in
    let had : ltb 0 h.balance ≡ true = grind (arith, nat_tests) in
    rw (tested, steady.test n h) (rw had at e)

-- the one chosen is in the list, and can be paid
pub record Found (p : Holding → Bool) (low : ℕ) (h : Holding) : Type 0 where
  pub high : low ≤ h.id
  pub is_open : is_open p h ≡ true

found_later : (p : Holding → Bool) (low more : ℕ) (h : Holding) → low ≤ more → Found p more h → Found p low h
found_later p low more h l f = record { high = omega arith; is_open = f.is_open }

some_same : {A : Type 0} (a b : A) → Some a ≡ Some b → a ≡ b
some_same a b e = cc

not_none : {A B : Type 0} (a : A) (r : Option A) → r ≡ None → r ≡ Some a → B
not_none a r n e = cc

-- by cases on the choice at the head of a list
at_choice : (p : Holding → Bool) (before : Holding → Holding → Bool) (low : ℕ) (x : Holding) (rest : Option Holding) (h : Holding) → low ≤ x.id → is_open p x ≡ true
    → ((g : Holding) → rest ≡ Some g → Found p low g) → Some (choose before x rest) ≡ Some h → Found p low h
at_choice p before low x None h l o r e = subst (Found p low) (some_same x h e) (record { high = l; is_open = o })
at_choice p before low x (Some g) h l o r e = by (before g x) e
  where
    by : (b : Bool) → Some (cond b g x) ≡ Some h → Found p low h
    by true e = subst (Found p low) (some_same g h e) (r g refl)
    by false e = subst (Found p low) (some_same x h e) (record { high = l; is_open = o })

at_head : (p : Holding → Bool) (before : Holding → Holding → Bool) (low : ℕ) (x : Holding) (rest : Option Holding) (h : Holding) (b : Bool) → low ≤ x.id → is_open p x ≡ b
    → ((g : Holding) → rest ≡ Some g → Found p low g) → cond b (Some (choose before x rest)) rest ≡ Some h → Found p low h
at_head p before low x rest h true l o r e = at_choice p before low x rest h l o r e
at_head p before low x rest h false l o r e = r h e

pub best-found : (p : Holding → Bool) (before : Holding → Holding → Bool) (low : ℕ) (hs : List Holding) (h : Holding) → Ascends low hs → best p before hs ≡ Some h → Found p low h
unfolding best
best-found p before low [] h a e = not_none h None refl e
best-found p before low (x ∷ hs) h a e =
    at_head p before low x (best p before hs) h (is_open p x) a.0 refl
    (λ g q. found_later p low (x.id + 1) g (omega arith) (best-found p before (x.id + 1) hs g a.1 q)) e

-- the head of a list is chosen, before and after
chosen_here : (p : Holding → Bool) (before : Holding → Holding → Bool) → Steady p before → (n : ℕ) (x : Holding) (hs : List Holding) (rest : Option Holding) → Ascends (x.id + 1) hs → n < x.balance → is_open p x ≡ true
    → best p before hs ≡ rest → choose before (paid_on n x) rest ≡ paid_on n x → best p before (paid_at x.id n (x ∷ hs)) ≡ Some (paid_on n x)
unfolding best paid_at
chosen_here p before steady n x hs rest a l o q c =
    rw (eq-eqb x.id x.id refl, paid_at-other x.id n (x.id + 1) hs (omega arith) a, open_after p before steady n x l o, q, c) refl

-- one behind the head is chosen, before and after
chosen_later : (p : Holding → Bool) (before : Holding → Holding → Bool) (n : ℕ) (x g : Holding) (hs : List Holding) (b : Bool) → x.id < g.id → is_open p x ≡ b
    → best p before (paid_at g.id n hs) ≡ Some (paid_on n g) → cond b (Some (choose before x (Some (paid_on n g)))) (Some (paid_on n g)) ≡ Some (paid_on n g)
    → best p before (paid_at g.id n (x ∷ hs)) ≡ Some (paid_on n g)
unfolding best paid_at
chosen_later p before n x g hs b l o q c =
    let other : eqb x.id g.id ≡ false = ne_eqb x.id g.id (λ e. omega arith) in
    rw (other, o, q) c

-- by cases on what is chosen of the rest, where the head can be paid
steady_open : (p : Holding → Bool) (before : Holding → Holding → Bool) → Steady p before → (n : ℕ) (x : Holding) (hs : List Holding) (rest : Option Holding) (h : Holding) → Ascends (x.id + 1) hs → n < h.balance → is_open p x ≡ true
    → best p before hs ≡ rest → ((g : Holding) → best p before hs ≡ Some g → n < g.balance → best p before (paid_at g.id n hs) ≡ Some (paid_on n g)) → Some (choose before x rest) ≡ Some h
    → best p before (paid_at h.id n (x ∷ hs)) ≡ Some (paid_on n h)
steady_open p before steady n x hs None h a l o q ih e =
    let same : x ≡ h = some_same x h e in
    let P : Holding → Type 0 = λ h. n < h.balance → best p before (paid_at h.id n (x ∷ hs)) ≡ Some (paid_on n h) in
    subst P same (λ l. chosen_here p before steady n x hs None a l o q refl) l
steady_open p before steady n x hs (Some g) h a l o q ih e = by (before g x) refl e
  where
    P : Holding → Type 0
    P h = n < h.balance → best p before (paid_at h.id n (x ∷ hs)) ≡ Some (paid_on n h)

    by : (b : Bool) → before g x ≡ b → Some (cond b g x) ≡ Some h → best p before (paid_at h.id n (x ∷ hs)) ≡ Some (paid_on n h)
    by true f e =
        let later : Found p (x.id + 1) g = best-found p before (x.id + 1) hs g a q in
        let below : x.id < g.id = omega (arith, later.high) in
        subst P (some_same g h e) (λ l. chosen_later p before n x g hs true below o (ih g q l) (rw (steady.first n g x, f) refl)) l
    by false f e =
        subst P (some_same x h e) (λ l. chosen_here p before steady n x hs (Some g) a l o q (rw (steady.second n g x, f) refl)) l

steady_head : (p : Holding → Bool) (before : Holding → Holding → Bool) → Steady p before → (n : ℕ) (x : Holding) (hs : List Holding) (h : Holding) (b : Bool) → Ascends (x.id + 1) hs → n < h.balance → is_open p x ≡ b
    → ((g : Holding) → best p before hs ≡ Some g → n < g.balance → best p before (paid_at g.id n hs) ≡ Some (paid_on n g)) → cond b (Some (choose before x (best p before hs))) (best p before hs) ≡ Some h
    → best p before (paid_at h.id n (x ∷ hs)) ≡ Some (paid_on n h)
steady_head p before steady n x hs h true a l o ih e = steady_open p before steady n x hs (best p before hs) h a l o refl ih e
steady_head p before steady n x hs h false a l o ih e =
    let later : Found p (x.id + 1) h = best-found p before (x.id + 1) hs h a e in
    let below : x.id < h.id = omega (arith, later.high) in
    chosen_later p before n x h hs false below o (ih h e l) refl

pub best-steady : (p : Holding → Bool) (before : Holding → Holding → Bool) → Steady p before → (n low : ℕ) (hs : List Holding) (h : Holding) → Ascends low hs → best p before hs ≡ Some h → n < h.balance → best p before (paid_at h.id n hs) ≡ Some (paid_on n h)
unfolding best
best-steady p before steady n low [] h a e l = not_none h None refl e
best-steady p before steady n low (x ∷ hs) h a e l =
    steady_head p before steady n x hs h (is_open p x) a.1 l refl (λ g q m. best-steady p before steady n (x.id + 1) hs g a.1 q m) e

-- ---- where nothing can be paid, nothing can be paid later
closed_after : (p : Holding → Bool) (before : Holding → Holding → Bool) → Steady p before → (n : ℕ) (h : Holding) → is_open p h ≡ false → is_open p (paid_on n h) ≡ false
closed_after p before steady n h e =
    let less : ltb 0 (h.balance - n) ≡ true → ltb 0 h.balance ≡ true = λ q. grind (arith, nat_tests) in
    rw (steady.test n h) (by (ltb 0 (h.balance - n)) (ltb 0 h.balance) (p h) less e)
  where
    by : (later now tested : Bool) → (later ≡ true → now ≡ true) → now && tested ≡ false → later && tested ≡ false
    by false now tested i e = refl
    by true now tested i e = subst (λ b. b && tested ≡ false) (i refl) e

none_step : (p : Holding → Bool) (before : Holding → Holding → Bool) → Steady p before → (id n : ℕ) (x : Holding) (us vs : List Holding) (b c : Bool) → is_open p x ≡ b → eqb x.id id ≡ c
    → (best p before us ≡ None → best p before vs ≡ None) → cond b (Some (choose before x (best p before us))) (best p before us) ≡ None → best p before (cond c (paid_on n x) x ∷ vs) ≡ None
unfolding best
none_step p before steady id n x us vs true c o q ih e = not_none (choose before x (best p before us)) None refl (sym e)
none_step p before steady id n x us vs false true o q ih e = rw (closed_after p before steady n x o) (ih e)
none_step p before steady id n x us vs false false o q ih e = rw o (ih e)

pub best-none : (p : Holding → Bool) (before : Holding → Holding → Bool) → Steady p before → (id n : ℕ) (hs : List Holding) → best p before hs ≡ None → best p before (paid_at id n hs) ≡ None
unfolding best paid_at
best-none p before steady id n [] e = refl
best-none p before steady id n (x ∷ hs) e =
    none_step p before steady id n x hs (paid_at id n hs) (is_open p x) (eqb x.id id) refl refl (best-none p before steady id n hs) e

-- ---- a rule whose choice lasts as long as a cent of it is left
abbrev pub Lasts : (List Holding → Option Holding) → Type 0
Lasts rule = (n low : ℕ) (hs : List Holding) (h : Holding) → Ascends low hs → rule hs ≡ Some h → n < h.balance → rule (paid_at h.id n hs) ≡ Some (paid_on n h)

paid_on-zero : (h : Holding) → paid_on 0 h ≡ h
paid_on-zero h =
    let left : h.balance - 0 ≡ h.balance = omega arith in
    let paid : h.paid + 0 ≡ h.paid = omega arith in
    rw (left, paid) refl

paid_at-zero : (id : ℕ) (hs : List Holding) → paid_at id 0 hs ≡ hs
unfolding paid_at
paid_at-zero id [] = refl
paid_at-zero id (h ∷ hs) = rw (paid_on-zero h, paid_at-zero id hs) (by (eqb h.id id))
  where
    by : (b : Bool) → cond b h h ∷ hs ≡ h ∷ hs
    by true = refl
    by false = refl

-- so many cents of what is chosen are one part
pub pay_whole : (rule : List Holding → Option Holding) → Lasts rule → (n low : ℕ) (s : Paying) (h : Holding) → Ascends low s.left → rule s.left ≡ Some h → n ≤ h.balance → pay rule n s ≡ takes n s (Some h)
unfolding pay
pay_whole rule lasts zero low s h a e l = rw (paid_at-zero h.id s.left) refl
pay_whole rule lasts (suc zero) low s h a e l = rw e refl
pay_whole rule lasts (suc (suc n)) low s h a e l =
    let more : rule (paid_at h.id 1 s.left) ≡ Some (paid_on 1 h) = lasts 1 low s.left h a e (omega arith) in
    let rest = pay_whole rule lasts (suc n) low (takes 1 s (Some h)) (paid_on 1 h) (paid_at-ascends h.id 1 low s.left a) more (omega arith) in
    let all : 1 + suc n ≡ suc (suc n) = omega arith in
    rw e (rest ∙ rw (paid_at-add h.id 1 (suc n) s.left, all) refl)

-- without a choice every cent goes to Credit
pub pay_credit : (rule : List Holding → Option Holding) (n : ℕ) (s : Paying) → rule s.left ≡ None → pay rule n s ≡ record { left = s.left; credit = s.credit + n }
unfolding pay
pay_credit rule zero s e = let same : s.credit + 0 ≡ s.credit = omega arith in rw same refl
pay_credit rule (suc n) s e =
    let all : s.credit + 1 + n ≡ s.credit + suc n = omega arith in
    rw e (pay_credit rule n (record { left = s.left; credit = s.credit + 1 }) e ∙ rw all refl)

-- ---- the rules
steady_by_rate : Steady all_pass higher_rate
steady_by_rate = record { test = λ n h. refl; first = λ n g h. refl; second = λ n g h. refl }

steady_least : Steady all_pass lower_rate
steady_least = record { test = λ n h. refl; first = λ n g h. refl; second = λ n g h. refl }

steady_by_end : Steady is_last_two sooner_end
steady_by_end = record { test = λ n h. refl; first = λ n g h. refl; second = λ n g h. refl }

pub minimum_lasts : Lasts minimum_rule
minimum_lasts n low hs h a e l = best-steady all_pass lower_rate steady_least n low hs h a e l

either_lasts : (hs : List Holding) (n low : ℕ) (h : Holding) (first : Option Holding) → Ascends low hs → best is_last_two sooner_end hs ≡ first → option_or first (best all_pass higher_rate hs) ≡ Some h → n < h.balance → excess_rule (paid_at h.id n hs) ≡ Some (paid_on n h)
either_lasts hs n low h None a q e l =
    rw (best-none is_last_two sooner_end steady_by_end h.id n hs q) (best-steady all_pass higher_rate steady_by_rate n low hs h a e l)
either_lasts hs n low h (Some g) a q e l =
    rw (best-steady is_last_two sooner_end steady_by_end n low hs h a (q ∙ e) l) refl

pub excess_lasts : Lasts excess_rule
excess_lasts n low hs h a e l = either_lasts hs n low h (best is_last_two sooner_end hs) a refl e l

-- a write at the place of a holding is what is paid on its segment
pub set-paid_at : (hs : List Holding) (i n low : ℕ) (x : Holding) → Ascends low hs → i < length hs → x ≡ get_or hs i x → (low ≤ x.id) × (set hs i (paid_on n x) ≡ paid_at x.id n hs)
unfolding paid_at
set-paid_at [] i n low x a l e = absurd (omega arith)
set-paid_at (h ∷ hs) zero n low x a l e =
    let same : eqb h.id x.id ≡ true = eq-eqb h.id x.id (ap (λ (g : Holding). g.id) (sym e)) in
    (rw e a.0, rw (same, paid_at-other x.id n (h.id + 1) hs (rw e (omega arith)) a.1, e) refl)
set-paid_at (h ∷ hs) (suc i) n low x a l e =
    let rest = set-paid_at hs i n (h.id + 1) x a.1 (omega arith) e in
    let other : eqb h.id x.id ≡ false = ne_eqb h.id x.id (λ q. omega (arith, rest.0)) in
    (omega (arith, rest.0, a.0), rw (other, rest.1) refl)
