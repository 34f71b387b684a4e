-- Credit is never above 0, and no segment but Held below.
use Rattle.std.proofs.Common.{◌≡◌, ℕ, zero, suc, ◌+◌, ◌<◌, ◌≤◌, Bool, true, false, cond, ◌&&◌, List, [], ◌∷◌, refl, ap, ◌∙◌, subst, arith, Option, Some, None, eqb, ltb}
use Rattle.std.specs.List.{filter_map, cons_option, All, Contains}
use Rattle.std.proofs.lemmas.Bool.{eqb-true, ne_eqb}
use Rattle.std.proofs.lemmas.Bool.Decides.{nat_tests}
use Rattle.std.proofs.lemmas.List.Elements.{All-nil, All-cons, All-head, All-tail, All-weaker, All-contains, All-contains_itself}
use Rattle.std.specs.Option.{option_or}
use Rattle.card_model.specs.Allocation.{Ascends, Paying, all_pass, best, choose, excess_rule, higher_rate, is_last_two, lower_rate, minimum_rule, never, paid_at, paid_on, part_of, pay, place_rule, sooner_end, takes}
use Rattle.card_model.specs.Entries.{owed}
use Rattle.card_model.specs.declared.holding.Holding.{Holding}
use Rattle.card_model.proofs.WholeParts.{paid_at-ascends, best-found, is_open}

-- ---- who is chosen is in the list
best-all : (q : Holding → Type 0) (p : Holding → Bool) (before : Holding → Holding → Bool) (hs : List Holding) (h : Holding) → All q hs → best p before hs ≡ Some h → q h
unfolding best
best-all q p before [] h a e = cc
best-all q p before (x ∷ hs) h a e = by (ltb 0 x.balance && p x) (best p before hs) refl e (All-head q x hs a) (λ g r. best-all q p before hs g (All-tail q x hs a) r)
  where
    some : (y : Holding) → Some y ≡ Some h → q y → q h
    some y e k = let same : y ≡ h = cc in subst q same k

    pick : (t : Bool) (g : Holding) → Some (cond t g x) ≡ Some h → q x → q g → q h
    pick true g e k m = some g e m
    pick false g e k m = some x e k

    by : (t : Bool) (rest : Option Holding) → best p before hs ≡ rest → cond t (Some (choose before x rest)) rest ≡ Some h → q x → ((g : Holding) → best p before hs ≡ Some g → q g) → q h
    by true None r e k m = some x e k
    by true (Some g) r e k m = pick (before g x) g e k (m g r)
    by false rest r e k m = m h (r ∙ e)

ids-above : (m low : ℕ) (hs : List Holding) → m ≤ low → Ascends low hs → All (λ (y : Holding). m ≤ y.id) hs
ids-above m low [] l a = All-nil (λ (y : Holding). m ≤ y.id)
ids-above m low (x ∷ hs) l a = All-cons (λ (y : Holding). m ≤ y.id) x hs (let k = a.0 in omega arith) (ids-above m (x.id + 1) hs (let k = a.0 in omega arith) a.1)

only-id : (low : ℕ) (hs : List Holding) (h : Holding) → Ascends low hs → Contains hs h → All (λ (x : Holding). x.id ≡ h.id → x ≡ h) hs
only-id low [] h a c = All-nil (λ (x : Holding). x.id ≡ h.id → x ≡ h)
only-id low (x ∷ hs) h a (zero, l, e) =
    All-cons (λ (x : Holding). x.id ≡ h.id → x ≡ h) x hs (λ q. e)
    (All-weaker (λ (y : Holding). suc x.id ≤ y.id) (λ (y : Holding). y.id ≡ h.id → y ≡ h) (λ y m q. let n = ap (λ (z : Holding). z.id) e in absurd (omega arith)) hs (ids-above (suc x.id) (x.id + 1) hs (omega arith) a.1))
only-id low (x ∷ hs) h a (suc k, l, e) =
    let c : Contains hs h = (k, omega arith, e) in
    let m = All-contains (λ (y : Holding). suc x.id ≤ y.id) hs h (ids-above (suc x.id) (x.id + 1) hs (omega arith) a.1) c in
    All-cons (λ (x : Holding). x.id ≡ h.id → x ≡ h) x hs (λ q. absurd (omega arith)) (only-id (x.id + 1) hs h a.1 c)

-- a rule that chooses one that can be paid
abbrev Chooses : (List Holding → Option Holding) → Type 0
Chooses rule = (low : ℕ) (hs : List Holding) (h : Holding) → Ascends low hs → rule hs ≡ Some h → (Contains hs h) × (0 < h.balance)

open-more : (p : Holding → Bool) (h : Holding) → is_open p h ≡ true → 0 < h.balance
open-more p h e = by (ltb 0 h.balance) refl e
  where
    by : (t : Bool) → ltb 0 h.balance ≡ t → (t && p h) ≡ true → 0 < h.balance
    by true q e = grind (arith, nat_tests)
    by false q e = cc

best-chooses : (p : Holding → Bool) (before : Holding → Holding → Bool) → Chooses (λ hs. best p before hs)
best-chooses p before low hs h a e = (best-all (Contains hs) p before hs h (All-contains_itself hs) e, open-more p h (best-found p before low hs h a e).is_open)

then-chooses : (f g : List Holding → Option Holding) → Chooses f → Chooses g → Chooses (λ hs. option_or (f hs) (g hs))
then-chooses f g c d low hs h a e = by (f hs) refl e
  where
    by : (o : Option Holding) → f hs ≡ o → option_or o (g hs) ≡ Some h → (Contains hs h) × (0 < h.balance)
    by None q e = d low hs h a e
    by (Some x) q e = c low hs h a (q ∙ e)

pub minimum-chooses : Chooses minimum_rule
minimum-chooses = best-chooses all_pass lower_rate

pub excess-chooses : Chooses excess_rule
excess-chooses = then-chooses (λ hs. best is_last_two sooner_end hs) (λ hs. best all_pass higher_rate hs) (best-chooses is_last_two sooner_end) (best-chooses all_pass higher_rate)

pub place-chooses : Chooses place_rule
place-chooses = then-chooses (λ hs. best (λ h. h.of_place) never hs) excess_rule (best-chooses (λ h. h.of_place) never) excess-chooses

-- ---- no holding is paid more than it owed
abbrev Within : (ℕ → ℕ) → Holding → Type 0
Within owed h = h.paid + h.balance ≤ owed h.id

paid_at-within : (owed : ℕ → ℕ) (id : ℕ) (hs : List Holding) → All (Within owed) hs → All (λ (x : Holding). x.id ≡ id → 0 < x.balance) hs → All (Within owed) (paid_at id 1 hs)
unfolding paid_at
paid_at-within owed id [] h m = All-nil (Within owed)
paid_at-within owed id (x ∷ hs) h m =
    All-cons (Within owed) (cond (eqb x.id id) (paid_on 1 x) x) (paid_at id 1 hs) (by (eqb x.id id) refl (All-head (Within owed) x hs h) (All-head (λ (x : Holding). x.id ≡ id → 0 < x.balance) x hs m))
    (paid_at-within owed id hs (All-tail (Within owed) x hs h) (All-tail (λ (x : Holding). x.id ≡ id → 0 < x.balance) x hs m))
  where
    by : (t : Bool) → eqb x.id id ≡ t → Within owed x → (x.id ≡ id → 0 < x.balance) → Within owed (cond t (paid_on 1 x) x)
    by true e w f = let l = f (eqb-true x.id id e) in omega arith
    by false e w f = w

takes-within : (owed : ℕ → ℕ) (low : ℕ) (s : Paying) (o : Option Holding) → ((h : Holding) → o ≡ Some h → (Contains s.left h) × (0 < h.balance)) → Ascends low s.left → All (Within owed) s.left
    → (All (Within owed) (takes 1 s o).left) × Ascends low (takes 1 s o).left
takes-within owed low s None c a h = (h, a)
takes-within owed low s (Some x) c a h =
    let found = c x refl in
    let more = found.1 in
    let alone = only-id low s.left x a found.0 in
    (paid_at-within owed x.id s.left h (All-weaker (λ (y : Holding). y.id ≡ x.id → y ≡ x) (λ (y : Holding). y.id ≡ x.id → 0 < y.balance) (λ y f q. let same = ap (λ (z : Holding). z.balance) (f q) in omega arith) s.left alone), paid_at-ascends x.id 1 low s.left a)

pub pay-within : (owed : ℕ → ℕ) (rule : List Holding → Option Holding) → Chooses rule → (n low : ℕ) (s : Paying) → Ascends low s.left → All (Within owed) s.left
    → (All (Within owed) (pay rule n s).left) × Ascends low (pay rule n s).left
unfolding pay
pay-within owed rule c zero low s a h = (h, a)
pay-within owed rule c (suc n) low s a h =
    let one = takes-within owed low s (rule s.left) (λ x e. c low s.left x a e) a h in
    pay-within owed rule c n low (takes 1 s (rule s.left)) one.1 one.0

-- ---- the parts by segment
abbrev pub parts_at : ℕ → List (ℕ × ℕ) → ℕ
parts_at s [] = 0
parts_at s (p ∷ ps) = cond (eqb p.0 s) p.1 0 + parts_at s ps

parts_at-none : (s low : ℕ) (hs : List Holding) → s < low → Ascends low hs → parts_at s (filter_map part_of hs) ≡ 0
parts_at-none s low [] l a = refl
parts_at-none s low (h ∷ hs) l a = by (eqb h.paid 0) (ne_eqb h.id s (λ e. let m = a.0 in omega arith)) (parts_at-none s (h.id + 1) hs (let m = a.0 in omega arith) a.1)
  where
    by : (t : Bool) → eqb h.id s ≡ false → parts_at s (filter_map part_of hs) ≡ 0 → parts_at s (cons_option (cond t None (Some (h.id, h.paid))) (filter_map part_of hs)) ≡ 0
    by true e i = i
    by false e i = rw (e, i) refl

pub parts_at-within : (owed : ℕ → ℕ) (s low : ℕ) (hs : List Holding) → Ascends low hs → All (Within owed) hs → parts_at s (filter_map part_of hs) ≤ owed s
parts_at-within owed s low [] a h = omega arith
parts_at-within owed s low (x ∷ hs) a h = by (eqb x.paid 0) (eqb x.id s) refl (All-head (Within owed) x hs h) (parts_at-within owed s (x.id + 1) hs a.1 (All-tail (Within owed) x hs h))
    (λ e. parts_at-none s (x.id + 1) hs (omega arith) a.1)
  where
    by : (t u : Bool) → eqb x.id s ≡ u → Within owed x → parts_at s (filter_map part_of hs) ≤ owed s → (x.id ≡ s → parts_at s (filter_map part_of hs) ≡ 0)
        → parts_at s (cons_option (cond t None (Some (x.id, x.paid))) (filter_map part_of hs)) ≤ owed s
    by true u e w i n = i
    by false true e w i n =
        let same = eqb-true x.id s e in
        let none = n same in
        let most = subst (λ k. x.paid + x.balance ≤ owed k) same w in
        rw (e, none) (omega arith)
    by false false e w i n = rw e (omega arith)
