-- The parts of an amount where one segment at most has a balance.
use Rattle.std.proofs.Common.{◌≡◌, ℕ, zero, suc, ◌+◌, ◌-◌, ◌<◌, ◌≤◌, Bool, true, false, cond, ◌&&◌, ◌||◌, List, [], ◌∷◌, ◌++◌, map, length, drop, replicate, refl, sym, ap, ◌∙◌, subst, arith, eqb, eq-eqb, ltb, get_or, get_or-drop, length-drop, filter, Option, Some, None, ℤ, pos, negsuc}
use Rattle.std.specs.Prelude.{min, ◌≤ℤ◌}
use Rattle.std.specs.List.{All, cons_option, filter_map}
use Rattle.std.specs.Option.{option_or}
use Rattle.std.proofs.lemmas.Int.{ints}
use Rattle.std.proofs.lemmas.Bool.{eqb-true, ne_eqb}
use Rattle.std.proofs.lemmas.Bool.Decides.{nat_tests}
use Rattle.std.proofs.lemmas.List.{append-nil, drop_all, drop_more, length-replicate}
use Rattle.std.proofs.lemmas.List.Elements.{All-nil, All-cons, All-head, All-filter}
use Rattle.card_model.specs.Allocation.{Paying, all_pass, allocated, best, choose, excess_rule, higher_rate, is_last_two, lower_rate, minimum_rule, never, paid_at, paid_on, part_of, parts, pay, place_rule, placed, sooner_end, takes, untouched}
use Rattle.card_model.specs.Entries.{at_least_zero}
use Rattle.card_model.specs.declared.holding.Holding.{Holding}
use Rattle.card_model.proofs.WholeParts.{pay_credit}
use Rattle.card_segments.specs.Balances.{HaveSigns}
use Rattle.card_segments.specs.Holdings.{counts, holding, holdings, holdings_from}
use Rattle.card_segments.specs.Parts.{AreParts, part}
use Rattle.card_segments.specs.Rules.{rule_of}
use Rattle.card_segments.specs.Sole.{AreOfSole, holders, holders_from, is_above_zero, sole}
use Rattle.card_segments.specs.declared.rank.Rank.{Rank}
use Rattle.card_segments.specs.declared.rule.Rule.{Rule}
use Rattle.card_segments.specs.declared.rule.Rule.TheVariants as rule
use Rattle.card_segments.proofs.Counted.{allocated-counted, either, placed-counted}
use Rattle.card_segments.proofs.HoldingLists.{holdings-ascend}
use Rattle.card_segments.proofs.PartFacts.{allocated-parts, at}

-- ---- any rule chooses the only holding, as long as it can be paid
best-one : (p : Holding → Bool) (before : Holding → Holding → Bool) (y : Holding) → 0 < y.balance → best p before (y ∷ []) ≡ cond (p y) (Some y) None
unfolding best
best-one p before y l = let test : ltb 0 y.balance ≡ true = grind (arith, nat_tests) in rw test refl

best-spent : (p : Holding → Bool) (before : Holding → Holding → Bool) (y : Holding) → y.balance ≡ 0 → best p before (y ∷ []) ≡ None
unfolding best
best-spent p before y e = rw e refl

pick : (t : Bool) (y : Holding) → option_or (cond t (Some y) None) (Some y) ≡ Some y
pick true y = refl
pick false y = refl

excess-one : (y : Holding) → 0 < y.balance → excess_rule (y ∷ []) ≡ Some y
excess-one y l = either _ _ _ _ (best-one is_last_two sooner_end y l) (best-one all_pass higher_rate y l) ∙ pick (is_last_two y) y

rule-one : (r : Rule) (y : Holding) → 0 < y.balance → rule_of r (y ∷ []) ≡ Some y
rule-one rule.Minimum y l = best-one all_pass lower_rate y l
rule-one rule.Excess y l = excess-one y l
rule-one rule.Place y l = either _ _ _ _ (best-one (λ (h : Holding). h.of_place) never y l) (excess-one y l) ∙ pick y.of_place y

excess-spent : (y : Holding) → y.balance ≡ 0 → excess_rule (y ∷ []) ≡ None
excess-spent y e = either _ _ _ _ (best-spent is_last_two sooner_end y e) (best-spent all_pass higher_rate y e)

rule-spent : (r : Rule) (y : Holding) → y.balance ≡ 0 → rule_of r (y ∷ []) ≡ None
rule-spent rule.Minimum y e = best-spent all_pass lower_rate y e
rule-spent rule.Excess y e = excess-spent y e
rule-spent rule.Place y e = either _ _ _ _ (best-spent (λ (h : Holding). h.of_place) never y e) (excess-spent y e)

rule-empty : (r : Rule) → rule_of r [] ≡ None
unfolding best
rule-empty rule.Minimum = refl
rule-empty rule.Excess = refl
rule-empty rule.Place = refl

-- ---- an amount on the only holding
abbrev alone : Holding → ℕ → ℕ → Paying
alone x m c = at (paid_on m x ∷ []) c

once-more : (x : Holding) (m : ℕ) → paid_at x.id 1 (paid_on m x ∷ []) ≡ paid_on (m + 1) x ∷ []
unfolding paid_at
once-more x m =
    let left : x.balance - m - 1 ≡ x.balance - (m + 1) = omega arith in
    let paid : x.paid + m + 1 ≡ x.paid + (m + 1) = omega arith in
    rw (eq-eqb x.id x.id refl, left, paid) refl

alone-same : (x : Holding) (m n c d : ℕ) → m ≡ n → c ≡ d → alone x m c ≡ alone x n d
alone-same x m n c d e f = rw (e, f) refl

pay-step : (r : Rule) (n m c : ℕ) (x : Holding) (o : Option Holding) → rule_of r (paid_on m x ∷ []) ≡ o → pay (rule_of r) (suc n) (alone x m c) ≡ pay (rule_of r) n (takes 1 (alone x m c) o)
unfolding pay
pay-step r n m c x o e = ap (λ q. pay (rule_of r) n (takes 1 (alone x m c) q)) e

pay-alone : (r : Rule) (n m c : ℕ) (x : Holding) → pay (rule_of r) n (alone x m c) ≡ alone x (m + min (x.balance - m) n) (c + (n - min (x.balance - m) n))
unfolding pay
pay-alone r zero m c x = alone-same x m _ c _ (omega arith) (omega arith)
pay-alone r (suc n) m c x = by (x.balance - m) refl (pay-alone r n m (c + 1) x) (pay-alone r n (m + 1) c x)
  where
    by : (b : ℕ) → x.balance - m ≡ b → pay (rule_of r) n (alone x m (c + 1)) ≡ alone x (m + min (x.balance - m) n) (c + 1 + (n - min (x.balance - m) n))
        → pay (rule_of r) n (alone x (m + 1) c) ≡ alone x (m + 1 + min (x.balance - (m + 1)) n) (c + (n - min (x.balance - (m + 1)) n))
        → pay (rule_of r) (suc n) (alone x m c) ≡ alone x (m + min (x.balance - m) (suc n)) (c + (suc n - min (x.balance - m) (suc n)))
    by zero e over on =
        pay-step r n m c x None (rule-spent r (paid_on m x) e) ∙ (over ∙ alone-same x _ _ _ _ (omega arith) (omega arith))
    by (suc b) e over on =
        pay-step r n m c x (Some (paid_on m x)) (rule-one r (paid_on m x) (omega arith))
        ∙ (ap (λ us. pay (rule_of r) n (at us c)) (once-more x m) ∙ (on ∙ alone-same x _ _ _ _ (omega arith) (omega arith)))

begins : (x : Holding) → untouched (x ∷ []) ≡ alone x 0 0
begins x =
    let left : x.balance - 0 ≡ x.balance = omega arith in
    let paid : x.paid + 0 ≡ x.paid = omega arith in
    rw (left, paid) refl

parts-alone : (x : Holding) (m c : ℕ) → x.paid ≡ 0 → parts (alone x m c) ≡ part 0 c ++ part x.id m
parts-alone x m c e =
    let all : x.paid + m ≡ m = omega arith in
    rw all (by (eqb c 0) (eqb m 0))
  where
    by : (s t : Bool) → cond s (cons_option {X = ℕ × ℕ} (cond t None (Some (x.id, m))) []) ((0, c) ∷ cons_option {X = ℕ × ℕ} (cond t None (Some (x.id, m))) []) ≡ cond s [] ((0, c) ∷ []) ++ cond t [] ((x.id, m) ∷ [])
    by true true = refl
    by true false = refl
    by false true = refl
    by false false = refl

-- what the only holding is paid, and the rest
abbrev split : ℕ → ℕ → ℕ → List (ℕ × ℕ)
split id owed amount = part 0 (amount - min owed amount) ++ part id (min owed amount)

ends : (x : Holding) (s : Paying) (m c amount : ℕ) → x.paid ≡ 0 → s ≡ alone x m c → m ≡ min x.balance amount → c ≡ amount - min x.balance amount → parts s ≡ split x.id x.balance amount
ends x s m c amount e f g h = ap parts f ∙ (parts-alone x m c e ∙ rw (g, h) refl)

allocated-one : (x : Holding) (minimum amount : ℕ) → x.paid ≡ 0 → minimum ≤ amount → allocated minimum amount (x ∷ []) ≡ split x.id x.balance amount
allocated-one x minimum amount e l =
    ends x _ _ _ amount e
    (ap (λ s. pay excess_rule (amount - minimum) (pay minimum_rule minimum s)) (begins x)
    ∙ (ap (λ s. pay excess_rule (amount - minimum) s) (pay-alone rule.Minimum minimum 0 0 x) ∙ pay-alone rule.Excess (amount - minimum) _ _ x))
    (omega arith) (omega arith)

placed-one : (x : Holding) (amount : ℕ) → x.paid ≡ 0 → placed amount (x ∷ []) ≡ split x.id x.balance amount
placed-one x amount e =
    ends x _ _ _ amount e (ap (λ s. pay place_rule amount s) (begins x) ∙ pay-alone rule.Place amount 0 0 x) (omega arith) (omega arith)

pay-empty : (r : Rule) (n c : ℕ) → pay (rule_of r) n (at [] c) ≡ at [] (c + n)
pay-empty r n c = pay_credit (rule_of r) n (at [] c) (rule-empty r)

allocated-none : (minimum amount : ℕ) → minimum ≤ amount → allocated minimum amount [] ≡ part 0 amount
allocated-none minimum amount l =
    let all : 0 + minimum + (amount - minimum) ≡ amount = omega arith in
    ap (λ s. parts (pay excess_rule (amount - minimum) s)) (pay-empty rule.Minimum minimum 0) ∙ (ap parts (pay-empty rule.Excess (amount - minimum) (0 + minimum)) ∙ rw all refl)

placed-none : (amount : ℕ) → placed amount [] ≡ part 0 amount
placed-none amount = let all : 0 + amount ≡ amount = omega arith in ap parts (pay-empty rule.Place amount 0) ∙ rw all refl

-- ---- the holdings that count are those of the holders
numbers : List Holding → List ℕ
numbers hs = map (λ (h : Holding). h.id) hs

numbers-counted : (place : List ℕ) (id : ℕ) (bs : List ℤ) (rs : List Rank) → length rs ≡ length bs → map (λ (h : Holding). h.id) (filter counts (holdings_from place id bs rs)) ≡ holders_from id bs
numbers-counted place id [] rs l = refl
numbers-counted place id (b ∷ bs) [] l = absurd (omega arith)
numbers-counted place id (b ∷ bs) (r ∷ rs) l = by (is_above_zero b) (numbers-counted place (id + 1) bs rs (omega arith))
  where
    by : (t : Bool) → map (λ (h : Holding). h.id) (filter counts (holdings_from place (id + 1) bs rs)) ≡ holders_from (id + 1) bs
        → map (λ (h : Holding). h.id) (cond t (holding place id b r ∷ filter counts (holdings_from place (id + 1) bs rs)) (filter counts (holdings_from place (id + 1) bs rs))) ≡ cond t (id ∷ holders_from (id + 1) bs) (holders_from (id + 1) bs)
    by true i = ap (λ ids. id ∷ ids) i
    by false i = i

abbrev IsOf : List ℤ → Holding → Type 0
IsOf bs h = (h.paid ≡ 0) × (h.balance ≡ at_least_zero (get_or bs h.id (pos 0)))

from-of : (all : List ℤ) (place : List ℕ) (i : ℕ) (bs : List ℤ) (rs : List Rank) → ((k : ℕ) → get_or bs k (pos 0) ≡ get_or all (i + k) (pos 0)) → All (IsOf all) (holdings_from place i bs rs)
from-of all place i [] rs h = All-nil (IsOf all)
from-of all place i (b ∷ bs) [] h = All-nil (IsOf all)
from-of all place i (b ∷ bs) (r ∷ rs) h =
    let plus : i + 0 ≡ i = omega arith in
    let here : b ≡ get_or all i (pos 0) = h 0 ∙ ap (λ k. get_or all k (pos 0)) plus in
    All-cons (IsOf all) _ (holdings_from place (i + 1) bs rs) (refl, ap at_least_zero here)
    (from-of all place (i + 1) bs rs (λ k. h (suc k) ∙ ap (λ j. get_or all j (pos 0)) (shift i k)))
  where
    shift : (i k : ℕ) → i + suc k ≡ i + 1 + k
    shift i k = omega arith

-- what is said of the list of one or none
nothing-owed : (b : ℤ) → b ≤ℤ pos 0 → at_least_zero b ≡ 0
nothing-owed (pos n) l = omega (arith, ints)
nothing-owed (negsuc n) l = refl

some_same : (a b : ℕ) → Some a ≡ Some b → a ≡ b
some_same a b e = cc

split-none : (bs : List ℤ) (amount : ℕ) → HaveSigns bs → part 0 amount ≡ split 0 (at_least_zero (get_or bs 0 (pos 0))) amount
split-none bs amount s =
    let none : at_least_zero (get_or bs 0 (pos 0)) ≡ 0 = nothing-owed (get_or bs 0 (pos 0)) s.credit in
    let paid : min 0 amount ≡ 0 = omega arith in
    let rest : amount - 0 ≡ amount = omega arith in
    rw (none, paid, rest) (sym (append-nil (part 0 amount)))

by-list : (bs : List ℤ) (id amount : ℕ) (f : List Holding → List (ℕ × ℕ)) (hs : List Holding) → HaveSigns bs → All (IsOf bs) hs → sole (map (λ (h : Holding). h.id) hs) ≡ Some id
    → f [] ≡ part 0 amount → ((x : Holding) → x.paid ≡ 0 → f (x ∷ []) ≡ split x.id x.balance amount) → f hs ≡ split id (at_least_zero (get_or bs id (pos 0))) amount
by-list bs id amount f [] s a e n o =
    subst (λ i. f [] ≡ split i (at_least_zero (get_or bs i (pos 0))) amount) (some_same 0 id e) (n ∙ split-none bs amount s)
by-list bs id amount f (x ∷ []) s a e n o =
    let is = All-head (IsOf bs) x [] a in
    subst (λ i. f (x ∷ []) ≡ split i (at_least_zero (get_or bs i (pos 0))) amount) (some_same x.id id e) (o x is.0 ∙ ap (λ owed. split x.id owed amount) is.1)
by-list bs id amount f (x ∷ y ∷ hs) s a e n o = cc

-- ---- the parts
same-length : (bs : List ℤ) (rs : List Rank) → length rs ≡ length bs → length (drop 2 rs) ≡ length (drop 2 bs)
same-length bs rs l = omega (arith, length-drop 2 rs, length-drop 2 bs)

of-holders : (bs : List ℤ) (id amount : ℕ) (place : List ℕ) (rs : List Rank) (f : List Holding → List (ℕ × ℕ)) → HaveSigns bs → sole (holders bs) ≡ Some id → length rs ≡ length bs
    → f [] ≡ part 0 amount → ((x : Holding) → x.paid ≡ 0 → f (x ∷ []) ≡ split x.id x.balance amount) → f (filter counts (holdings place bs rs)) ≡ split id (at_least_zero (get_or bs id (pos 0))) amount
of-holders bs id amount place rs f s e l n o =
    by-list bs id amount f (filter counts (holdings place bs rs)) s
    (All-filter counts (IsOf bs) (holdings place bs rs) (from-of bs place 2 (drop 2 bs) (drop 2 rs) (λ k. get_or-drop 2 bs k (pos 0))))
    (ap sole (numbers-counted place 2 (drop 2 bs) (drop 2 rs) (same-length bs rs l)) ∙ e) n o

payment-is : (bs : List ℤ) (id amount : ℕ) → HaveSigns bs → sole (holders bs) ≡ Some id → (rs : List Rank) (minimum : ℕ) → length rs ≡ length bs → minimum ≤ amount → split id (at_least_zero (get_or bs id (pos 0))) amount ≡ allocated minimum amount (holdings [] bs rs)
payment-is bs id amount s e rs minimum l m =
    sym (of-holders bs id amount [] rs (λ hs. allocated minimum amount hs) s e l (allocated-none minimum amount m) (λ x q. allocated-one x minimum amount q m))
    ∙ allocated-counted minimum amount 2 (holdings [] bs rs) (holdings-ascend [] 2 2 (drop 2 bs) (drop 2 rs) (omega arith))

credit-is : (bs : List ℤ) (id amount : ℕ) → HaveSigns bs → sole (holders bs) ≡ Some id → (rs : List Rank) (place : List ℕ) → length rs ≡ length bs → split id (at_least_zero (get_or bs id (pos 0))) amount ≡ placed amount (holdings place bs rs)
credit-is bs id amount s e rs place l =
    sym (of-holders bs id amount place rs (λ hs. placed amount hs) s e l (placed-none amount) (λ x q. placed-one x amount q))
    ∙ placed-counted amount 2 (holdings place bs rs) (holdings-ascend place 2 2 (drop 2 bs) (drop 2 rs) (omega arith))

pub sole-parts : (bs : List ℤ) (id amount owed paid : ℕ) (ps : List (ℕ × ℕ)) → HaveSigns bs → 1 ≤ length bs → sole (holders bs) ≡ Some id → owed ≡ at_least_zero (get_or bs id (pos 0)) → paid ≡ min owed amount
    → ps ≡ part 0 (amount - paid) ++ part id paid → AreOfSole bs amount ps
sole-parts bs id amount owed paid ps s l e o f q =
    let none : Rank = record { rate = 0; last_two = None } in
    let ranks = replicate (length bs) none in
    let made : ps ≡ split id (at_least_zero (get_or bs id (pos 0))) amount = q ∙ (ap (λ n. part 0 (amount - n) ++ part id n) f ∙ ap (λ n. split id n amount) o) in
    let is = made ∙ payment-is bs id amount s e ranks 0 (length-replicate (length bs) none) (omega arith) in
    record {
      whole = subst (AreParts bs amount) (sym is) (allocated-parts bs ranks 0 amount l (omega arith));
      payment = λ rs minimum k m. made ∙ payment-is bs id amount s e rs minimum k m;
      credit = λ rs place k. made ∙ credit-is bs id amount s e rs place k;
    }

-- ---- the search for the only holder
-- those found so far, none being 0
abbrev pub found_list : ℕ → List ℕ
found_list found = cond (eqb found 0) [] (found ∷ [])

-- where the search has come to, from a segment on
abbrev pub AreFound : List ℤ → ℕ → ℕ → Type 0
AreFound bs found i = holders bs ≡ found_list found ++ holders_from i (drop i bs)

from-here : (bs : List ℤ) (i : ℕ) (t : Bool) → i < length bs → is_above_zero (get_or bs i (pos 0)) ≡ t → holders_from i (drop i bs) ≡ cond t (i ∷ holders_from (i + 1) (drop (i + 1) bs)) (holders_from (i + 1) (drop (i + 1) bs))
from-here bs i t l e = rw (drop_more bs i (pos 0) l, e) refl

pub passed-over : (bs : List ℤ) (found i : ℕ) → i < length bs → is_above_zero (get_or bs i (pos 0)) ≡ false → AreFound bs found i → AreFound bs found (i + 1)
passed-over bs found i l e h = h ∙ ap (λ ids. found_list found ++ ids) (from-here bs i false l e)

some-found : (found : ℕ) → (found ≡ 0 → ⊥) → found_list found ≡ found ∷ []
some-found found n = rw (ne_eqb found 0 n) refl

pub first-found : (bs : List ℤ) (found i : ℕ) → 2 ≤ i → i < length bs → is_above_zero (get_or bs i (pos 0)) ≡ true → found ≡ 0 → AreFound bs found i → AreFound bs i (i + 1)
first-found bs found i m l e z h =
    h ∙ (ap (λ f. found_list f ++ holders_from i (drop i bs)) z
    ∙ (from-here bs i true l e ∙ sym (ap (λ ids. ids ++ holders_from (i + 1) (drop (i + 1) bs)) (some-found i (λ q. omega arith)))))

pub second-found : (bs : List ℤ) (found i : ℕ) → i < length bs → is_above_zero (get_or bs i (pos 0)) ≡ true → (found ≡ 0 → ⊥) → AreFound bs found i → sole (holders bs) ≡ None
second-found bs found i l e n h =
    ap sole (h ∙ (ap (λ ids. ids ++ holders_from i (drop i bs)) (some-found found n) ∙ ap (λ ids. found ∷ ids) (from-here bs i true l e)))

pub all-searched : (bs : List ℤ) (found i : ℕ) → length bs ≤ i → AreFound bs found i → sole (holders bs) ≡ Some found
all-searched bs found i l h =
    ap sole (h ∙ ap (λ us. found_list found ++ holders_from i us) (drop_all i bs l)) ∙ by (eqb found 0) refl
  where
    by : (t : Bool) → eqb found 0 ≡ t → sole (cond t [] (found ∷ []) ++ []) ≡ Some found
    by true e = ap (λ n. Some n) (sym (eqb-true found 0 e))
    by false e = refl
