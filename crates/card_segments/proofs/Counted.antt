-- Holdings that weren't paid and can't be take no part.
use Rattle.std.proofs.Common.{◌≡◌, ℕ, zero, suc, ◌+◌, ◌-◌, ◌<◌, ◌≤◌, Bool, true, false, cond, ◌&&◌, ◌||◌, List, [], ◌∷◌, length, refl, sym, ap, ◌∙◌, subst, arith, eqb, ltb, filter, Option, Some, None}
use Rattle.std.specs.List.{Contains, cons_option, filter_map}
use Rattle.std.specs.Option.{option_or}
use Rattle.std.proofs.lemmas.Bool.{eqb-true}
use Rattle.std.proofs.lemmas.Bool.Decides.{nat_tests}
use Rattle.card_model.specs.Allocation.{Ascends, Paying, all_pass, allocated, best, choose, excess_rule, higher_rate, is_last_two, lower_rate, minimum_rule, never, paid_at, paid_on, part_of, parts, pay, place_rule, placed, sooner_end, takes, untouched}
use Rattle.card_model.specs.declared.holding.Holding.{Holding}
use Rattle.card_model.proofs.Signs.{excess-chooses, minimum-chooses, place-chooses}
use Rattle.card_model.proofs.WholeParts.{paid_at-ascends, paid_at-other}
use Rattle.card_segments.specs.Holdings.{counts}
use Rattle.card_segments.specs.Rules.{rule_of}
use Rattle.card_segments.specs.declared.rule.Rule.{Rule}
use Rattle.card_segments.specs.declared.rule.Rule.TheVariants as rule

-- those of a state that count
abbrev pub kept : Paying → Paying
kept s = record { left = filter counts s.left; credit = s.credit }

none-above : (n : ℕ) → ltb 0 n ≡ false → n ≡ 0
none-above n e = grind (arith, nat_tests)

neither : (s t : Bool) → (s || t) ≡ false → (s ≡ false) × (t ≡ false)
neither true t e = (e, cc)
neither false t e = (refl, e)

idle : (p b : ℕ) → (ltb 0 p || ltb 0 b) ≡ false → (p ≡ 0) × (b ≡ 0)
idle p b e = let q = neither (ltb 0 p) (ltb 0 b) e in (none-above p q.0, none-above b q.1)

-- ---- they stay in order
pub contains-high : (low : ℕ) (hs : List Holding) (h : Holding) → Ascends low hs → Contains hs h → low ≤ h.id
contains-high low [] h a (k, l, e) = absurd (omega arith)
contains-high low (x ∷ hs) h a (zero, l, e) = subst (λ (g : Holding). low ≤ g.id) e a.0
contains-high low (x ∷ hs) h a (suc k, l, e) = let more = contains-high (x.id + 1) hs h a.1 (k, omega arith, e) in let m = a.0 in omega arith

lower : (low more : ℕ) (hs : List Holding) → low ≤ more → Ascends more hs → Ascends low hs
lower low more [] l a = tt
lower low more (h ∷ hs) l a = (let m = a.0 in omega arith, a.1)

pub counted-ascends : (low : ℕ) (hs : List Holding) → Ascends low hs → Ascends low (filter counts hs)
counted-ascends low [] a = tt
counted-ascends low (h ∷ hs) a = by (counts h) (counted-ascends (h.id + 1) hs a.1)
  where
    by : (t : Bool) → Ascends (h.id + 1) (filter counts hs) → Ascends low (cond t (h ∷ filter counts hs) (filter counts hs))
    by true r = (a.0, r)
    by false r = lower low (h.id + 1) (filter counts hs) (let m = a.0 in omega arith) r

-- ---- the choice is the same
best-step : (p : Holding → Bool) (before : Holding → Holding → Bool) (x : Holding) (us hs : List Holding) (t : Bool) → counts x ≡ t → best p before us ≡ best p before hs → best p before (cond t (x ∷ us) us) ≡ best p before (x ∷ hs)
unfolding best
best-step p before x us hs true e i = rw i refl
best-step p before x us hs false e i =
    let none : x.balance ≡ 0 = (idle x.paid x.balance e).1 in
    let test : ltb 0 x.balance ≡ false = grind (arith, nat_tests) in
    rw test i

best-counted : (p : Holding → Bool) (before : Holding → Holding → Bool) (hs : List Holding) → best p before (filter counts hs) ≡ best p before hs
best-counted p before [] = refl
best-counted p before (x ∷ hs) = best-step p before x (filter counts hs) hs (counts x) refl (best-counted p before hs)

pub either : (a b c d : Option Holding) → a ≡ b → c ≡ d → option_or a c ≡ option_or b d
either a b c d e f = rw (e, f) refl

excess-counted : (hs : List Holding) → excess_rule (filter counts hs) ≡ excess_rule hs
excess-counted hs = either _ _ _ _ (best-counted is_last_two sooner_end hs) (best-counted all_pass higher_rate hs)

rule-counted : (r : Rule) (hs : List Holding) → rule_of r (filter counts hs) ≡ rule_of r hs
rule-counted rule.Minimum hs = best-counted all_pass lower_rate hs
rule-counted rule.Excess hs = excess-counted hs
rule-counted rule.Place hs = either _ _ _ _ (best-counted (λ (h : Holding). h.of_place) never hs) (excess-counted hs)

-- ---- a cent is paid on one that counts
step-other : (id : ℕ) (x : Holding) (us vs : List Holding) (t : Bool) → eqb x.id id ≡ false → vs ≡ paid_at id 1 us → cond t (x ∷ vs) vs ≡ paid_at id 1 (cond t (x ∷ us) us)
unfolding paid_at
step-other id x us vs true e i = rw (e, i) refl
step-other id x us vs false e i = i

step-here : (id : ℕ) (x : Holding) (us vs : List Holding) → eqb x.id id ≡ true → vs ≡ paid_at id 1 us → paid_on 1 x ∷ vs ≡ paid_at id 1 (x ∷ us)
unfolding paid_at
step-here id x us vs e i = rw (e, i) refl

or-second : (s t : Bool) → t ≡ true → (s || t) ≡ true
or-second true t e = refl
or-second false t e = e

or-first : (s t : Bool) → s ≡ true → (s || t) ≡ true
or-first s t e = rw e refl

counts-open : (x : Holding) → 0 < x.balance → counts x ≡ true
counts-open x l = or-second (ltb 0 x.paid) (ltb 0 x.balance) (grind (arith, nat_tests))

counts-paid : (x : Holding) → counts (paid_on 1 x) ≡ true
counts-paid x =
    let more : 0 < x.paid + 1 = omega arith in
    or-first (ltb 0 (x.paid + 1)) (ltb 0 (x.balance - 1)) (grind (arith, nat_tests))

paid-step : (id : ℕ) (x : Holding) (us vs : List Holding) (c : Bool) → eqb x.id id ≡ c → (c ≡ true → 0 < x.balance) → vs ≡ paid_at id 1 us
    → cond (counts (cond c (paid_on 1 x) x)) (cond c (paid_on 1 x) x ∷ vs) vs ≡ paid_at id 1 (cond (counts x) (x ∷ us) us)
paid-step id x us vs true e h i = rw (counts-paid x, counts-open x (h refl)) (step-here id x us vs e i)
paid-step id x us vs false e h i = step-other id x us vs (counts x) e i

paid-counted : (low : ℕ) (hs : List Holding) (h : Holding) → Ascends low hs → Contains hs h → 0 < h.balance → filter counts (paid_at h.id 1 hs) ≡ paid_at h.id 1 (filter counts hs)
unfolding paid_at
paid-counted low [] h a (k, l, e) b = absurd (omega arith)
paid-counted low (x ∷ hs) h a (zero, l, e) b =
    let same : x.id ≡ h.id = ap (λ (g : Holding). g.id) e in
    let owed : x.balance ≡ h.balance = ap (λ (g : Holding). g.balance) e in
    let rest : filter counts (paid_at h.id 1 hs) ≡ paid_at h.id 1 (filter counts hs) =
    ap (λ us. filter counts us) (paid_at-other h.id 1 (x.id + 1) hs (omega arith) a.1) ∙ sym (paid_at-other h.id 1 (x.id + 1) (filter counts hs) (omega arith) (counted-ascends (x.id + 1) hs a.1)) in
    paid-step h.id x (filter counts hs) (filter counts (paid_at h.id 1 hs)) (eqb x.id h.id) refl (λ q. omega arith) rest
paid-counted low (x ∷ hs) h a (suc k, l, e) b =
    let c : Contains hs h = (k, omega arith, e) in
    let more = contains-high (x.id + 1) hs h a.1 c in
    paid-step h.id x (filter counts hs) (filter counts (paid_at h.id 1 hs)) (eqb x.id h.id) refl (λ q. let s = eqb-true x.id h.id q in absurd (omega arith)) (paid-counted (x.id + 1) hs h a.1 c b)

takes-counted : (low : ℕ) (s : Paying) (o : Option Holding) → ((h : Holding) → o ≡ Some h → (Contains s.left h) × (0 < h.balance)) → Ascends low s.left → takes 1 (kept s) o ≡ kept (takes 1 s o)
takes-counted low s None c a = refl
takes-counted low s (Some h) c a = ap (λ us. the_state us s.credit) (sym (paid-counted low s.left h a (c h refl).0 (c h refl).1))
  where
    the_state : List Holding → ℕ → Paying
    the_state us n = record { left = us; credit = n }

takes-ascends : (low : ℕ) (s : Paying) (o : Option Holding) → Ascends low s.left → Ascends low (takes 1 s o).left
takes-ascends low s None a = a
takes-ascends low s (Some h) a = paid_at-ascends h.id 1 low s.left a

-- ---- an amount
chooses : (r : Rule) (low : ℕ) (hs : List Holding) (h : Holding) → Ascends low hs → rule_of r hs ≡ Some h → (Contains hs h) × (0 < h.balance)
chooses rule.Minimum low hs h a e = minimum-chooses low hs h a e
chooses rule.Excess low hs h a e = excess-chooses low hs h a e
chooses rule.Place low hs h a e = place-chooses low hs h a e

pay-ascends : (r : Rule) (n low : ℕ) (s : Paying) → Ascends low s.left → Ascends low (pay (rule_of r) n s).left
unfolding pay
pay-ascends r zero low s a = a
pay-ascends r (suc n) low s a = pay-ascends r n low (takes 1 s (rule_of r s.left)) (takes-ascends low s (rule_of r s.left) a)

pay-counted : (r : Rule) (n low : ℕ) (s : Paying) → Ascends low s.left → pay (rule_of r) n (kept s) ≡ kept (pay (rule_of r) n s)
unfolding pay
pay-counted r zero low s a = refl
pay-counted r (suc n) low s a =
    ap (λ o. pay (rule_of r) n (takes 1 (kept s) o)) (rule-counted r s.left)
    ∙ (ap (λ t. pay (rule_of r) n t) (takes-counted low s (rule_of r s.left) (λ h e. chooses r low s.left h a e) a)
    ∙ pay-counted r n low (takes 1 s (rule_of r s.left)) (takes-ascends low s (rule_of r s.left) a))

-- ---- the parts
list-counted : (hs : List Holding) → filter_map part_of (filter counts hs) ≡ filter_map part_of hs
list-counted [] = refl
list-counted (x ∷ hs) = by (counts x) refl (list-counted hs)
  where
    by : (t : Bool) → counts x ≡ t → filter_map part_of (filter counts hs) ≡ filter_map part_of hs → filter_map part_of (cond t (x ∷ filter counts hs) (filter counts hs)) ≡ cons_option (part_of x) (filter_map part_of hs)
    by true e i = ap (λ ps. cons_option (part_of x) ps) i
    by false e i = let none : x.paid ≡ 0 = (idle x.paid x.balance e).0 in rw none i

parts-counted : (s : Paying) → parts (kept s) ≡ parts s
parts-counted s = rw (list-counted s.left) refl

pub allocated-counted : (minimum amount low : ℕ) (hs : List Holding) → Ascends low hs → allocated minimum amount (filter counts hs) ≡ allocated minimum amount hs
allocated-counted minimum amount low hs a =
    ap (λ s. parts (pay excess_rule (amount - minimum) s)) (pay-counted rule.Minimum minimum low (untouched hs) a)
    ∙ (ap parts (pay-counted rule.Excess (amount - minimum) low (pay minimum_rule minimum (untouched hs)) (pay-ascends rule.Minimum minimum low (untouched hs) a))
    ∙ parts-counted (pay excess_rule (amount - minimum) (pay minimum_rule minimum (untouched hs))))

pub placed-counted : (amount low : ℕ) (hs : List Holding) → Ascends low hs → placed amount (filter counts hs) ≡ placed amount hs
placed-counted amount low hs a = ap parts (pay-counted rule.Place amount low (untouched hs) a) ∙ parts-counted (pay place_rule amount (untouched hs))
