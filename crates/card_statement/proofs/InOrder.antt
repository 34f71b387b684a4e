-- Where entries stand in the order of their days, what is owed at the ends of days is seen in one pass over them.
use Rattle.std.proofs.Common.{◌≡◌, ℕ, zero, suc, ◌+◌, ◌-◌, ◌*◌, ◌<◌, ◌≤◌, ◌^◌, Bool, true, false, ◌||◌, ◌&&◌, cond, List, [], ◌∷◌, length, drop, get_or, refl, sym, ap, ◌∙◌, arith, eqb, leb, ltb, ℤ, pos, ◌+ℤ◌, ◌-ℤ◌}
use Rattle.std.specs.List.{list_any, range_with_len}
use Rattle.std.proofs.lemmas.Bool.{and_parts}
use Rattle.std.proofs.lemmas.Bool.Decides.{nat_tests}
use Rattle.std.proofs.lemmas.Int.{ints}
use Rattle.std.proofs.lemmas.List.{drop_all, drop_more}
use Rattle.card_model.specs.Entries.{at_least_zero, balance}
use Rattle.card_model.specs.declared.entry.Entry.{Entry}
use Rattle.card_segments.specs.Balances.{IsWithin}
use Rattle.card_statement.specs.Standing.{are_in_order, day_behind, is_owed_after, is_owed_between, is_owed_then, moved_after}
use Rattle.card_statement.proofs.DayBalances.{After, after-first, after-none, days-enough, or-none, wider}

-- ---- the order of entries
pub order-nil : (b last : ℕ) → are_in_order b last [] ≡ leb b last
unfolding are_in_order
order-nil b last = refl

order-cons : (b last : ℕ) (e : Entry) (es : List Entry) → are_in_order b last (e ∷ es) ≡ (leb b e.day && are_in_order e.day last es)
unfolding are_in_order
order-cons b last e es = refl

pub order-more : (b last : ℕ) (es : List Entry) (i : ℕ) (e : Entry) → i < length es → e ≡ get_or es i e
    → are_in_order b last (drop i es) ≡ (leb b e.day && are_in_order e.day last (drop (i + 1) es))
order-more b last es i e l is =
    ap (are_in_order b last) (drop_more es i e l ∙ ap (λ (x : Entry). x ∷ drop (i + 1) es) (sym is)) ∙ order-cons b last e (drop (i + 1) es)

pub order-ended : (b last : ℕ) (es : List Entry) (i : ℕ) → length es ≤ i → are_in_order b last (drop i es) ≡ leb b last
order-ended b last es i l = ap (are_in_order b last) (drop_all i es l) ∙ order-nil b last

record Ordered (b last : ℕ) (e : Entry) (es : List Entry) : Type 0 where
  pub first : b ≤ e.day
  pub rest : are_in_order e.day last es ≡ true

ordered : (b last : ℕ) (e : Entry) (es : List Entry) → are_in_order b last (e ∷ es) ≡ true → Ordered b last e es
ordered b last e es h =
    let parts = and_parts (leb b e.day) (are_in_order e.day last es) (sym (order-cons b last e es) ∙ h) in
    let low = parts.0 in
    record { first = grind (arith, nat_tests); rest = parts.1 }

in-order : (b last : ℕ) (e : Entry) (es : List Entry) → b ≤ e.day → are_in_order e.day last es ≡ true → are_in_order b last (e ∷ es) ≡ true
in-order b last e es l h =
    let low : leb b e.day ≡ true = grind (arith, nat_tests) in
    order-cons b last e es ∙ (ap (λ t. t && are_in_order e.day last es) low ∙ h)

last-after : (b last : ℕ) (es : List Entry) → are_in_order b last es ≡ true → b ≤ last
last-after b last [] h = let low : leb b last ≡ true = sym (order-nil b last) ∙ h in grind (arith, nat_tests)
last-after b last (e ∷ es) h =
    let parts = ordered b last e es h in
    let one = parts.first in
    let two = last-after e.day last es parts.rest in
    omega (arith, one, two)

-- from an earlier day on too
pub from-earlier : (a b last : ℕ) (es : List Entry) → a ≤ b → are_in_order b last es ≡ true → are_in_order a last es ≡ true
from-earlier a b last [] l h =
    let high : leb b last ≡ true = sym (order-nil b last) ∙ h in
    let low : leb a last ≡ true = grind (arith, nat_tests) in
    order-nil a last ∙ low
from-earlier a b last (e ∷ es) l h = let parts = ordered b last e es h in let one = parts.first in in-order a last e es (omega (arith, l, one)) parts.rest

-- ---- what is moved after a day
-- all of it, where the entries are of later days
all-moved : (s day b last : ℕ) (es : List Entry) → are_in_order b last es ≡ true → day < b → moved_after s day es ≡ balance s es
all-moved s day b last [] h l = after-none s day
all-moved s day b last (e ∷ es) h l =
    let parts = ordered b last e es h in
    let low = parts.first in
    let past : ltb day e.day ≡ true = grind (arith, nat_tests) in
    after-first s day e es
    ∙ (ap (λ t. cond t (cond (eqb e.segment s) e.cents (pos 0) +ℤ moved_after s day es) (moved_after s day es)) past
    ∙ ap (λ z. cond (eqb e.segment s) e.cents (pos 0) +ℤ z) (all-moved s day e.day last es parts.rest (omega (arith, l, low))))

-- but for one that isn't
without-one : (s day : ℕ) (e : Entry) (es : List Entry) → e.day ≤ day → moved_after s day (e ∷ es) ≡ moved_after s day es
without-one s day e es l =
    let by-then : ltb day e.day ≡ false = grind (arith, nat_tests) in
    after-first s day e es ∙ ap (λ t. cond t (cond (eqb e.segment s) e.cents (pos 0) +ℤ moved_after s day es) (moved_after s day es)) by-then

-- ---- what is owed at the end of a day
abbrev IsOwed : ℤ → Bool
IsOwed z = ltb 0 (at_least_zero z)

owed-none : (left : ℤ) (s day : ℕ) → is_owed_then left [] s day ≡ IsOwed left
unfolding is_owed_then
owed-none left s day = ap IsOwed (ap (λ z. left -ℤ z) (after-none s day) ∙ plain left)
  where
    plain : (z : ℤ) → z -ℤ pos 0 ≡ z
    plain z = omega (arith, ints)

owed-all : (left : ℤ) (s day last : ℕ) (e : Entry) (es : List Entry) → are_in_order e.day last es ≡ true → day < e.day → is_owed_then left (e ∷ es) s day ≡ IsOwed (left -ℤ balance s (e ∷ es))
unfolding is_owed_then
owed-all left s day last e es h l = ap (λ z. IsOwed (left -ℤ z)) (all-moved s day e.day last (e ∷ es) (in-order e.day last e es (omega arith) h) l)

owed-later : (left : ℤ) (s day : ℕ) (e : Entry) (es : List Entry) → e.day ≤ day → is_owed_then left (e ∷ es) s day ≡ is_owed_then left es s day
unfolding is_owed_then
owed-later left s day e es l = ap (λ z. IsOwed (left -ℤ z)) (without-one s day e es l)

-- ---- what is owed between entries
between-nil : (left : ℤ) (s first b : ℕ) → is_owed_between left s first b [] ≡ IsOwed left
unfolding is_owed_between
between-nil left s first b = refl

abbrev Shows : ℤ → ℕ → ℕ → ℕ → Entry → List Entry → Bool
Shows left s first b e es = IsOwed (left -ℤ balance s (e ∷ es)) && leb b e.day && ltb first e.day

between-cons : (left : ℤ) (s first b : ℕ) (e : Entry) (es : List Entry) → is_owed_between left s first b (e ∷ es) ≡ (Shows left s first b e es || is_owed_between left s first (e.day + 1) es)
unfolding is_owed_between
between-cons left s first b e es = refl

-- where something is, it was owed at the end of some day
found : (left : ℤ) (s first last b c : ℕ) (es : List Entry) → first ≤ last → c ≤ b - 1 → are_in_order c last es ≡ true → is_owed_between left s first b es ≡ true
    → (R : Type 0) → ((day : ℕ) → first ≤ day → c ≤ day → day ≤ last → is_owed_then left es s day ≡ true → R) → R
found left s first last b c [] l near h q R k = by (leb first c) refl
  where
    owed : (day : ℕ) → is_owed_then left [] s day ≡ true
    owed day = owed-none left s day ∙ (sym (between-nil left s first b) ∙ q)

    by : (t : Bool) → leb first c ≡ t → R
    by true p = k c (grind (arith, nat_tests)) (omega arith) (last-after c last [] h) (owed c)
    by false p = k first (omega arith) (grind (arith, nat_tests)) l (owed first)
found left s first last b c (e ∷ es) l near h q R k =
    let parts = ordered c last e es h in
    let one = parts.first in
    by parts (Shows left s first b e es) refl (sym (between-cons left s first b e es) ∙ q)
    (λ r. found left s first last (e.day + 1) e.day es l (omega arith) parts.rest r R (λ day f g i o. k day f (omega (arith, one, g)) i (owed-later left s day e es g ∙ o)))
  where
    by : Ordered c last e es → (t : Bool) → Shows left s first b e es ≡ t → (t || is_owed_between left s first (e.day + 1) es) ≡ true → (is_owed_between left s first (e.day + 1) es ≡ true → R) → R
    by parts true p r go =
        let outer = and_parts (IsOwed (left -ℤ balance s (e ∷ es)) && leb b e.day) (ltb first e.day) p in
        let inner = and_parts (IsOwed (left -ℤ balance s (e ∷ es))) (leb b e.day) outer.0 in
        let later = outer.1 in
        let behind = inner.1 in
        let low : first < e.day = grind (arith, nat_tests) in
        let back : b ≤ e.day = grind (arith, nat_tests) in
        let end = last-after e.day last es parts.rest in
        k (e.day - 1) (omega (arith, low)) (omega (arith, near, back)) (omega (arith, end)) (owed-all left s (e.day - 1) last e es parts.rest (omega (arith, low)) ∙ inner.0)
    by parts false p r go = go r

-- and else at none
none : (left : ℤ) (s first last b c : ℕ) (es : List Entry) → b ≤ c + 1 → are_in_order c last es ≡ true → is_owed_between left s first b es ≡ false
    → (day : ℕ) → first ≤ day → c ≤ day → is_owed_then left es s day ≡ false
none left s first last b c [] near h q day f g = owed-none left s day ∙ (sym (between-nil left s first b) ∙ q)
none left s first last b c (e ∷ es) near h q day f g =
    let parts = ordered c last e es h in
    let apart = or-none (Shows left s first b e es) (is_owed_between left s first (e.day + 1) es) (sym (between-cons left s first b e es) ∙ q) in
    by parts apart.0 (leb e.day day) refl (λ there. none left s first last (e.day + 1) e.day es (omega arith) parts.rest apart.1 day f there)
  where
    alone : (t u v : Bool) → u ≡ true → v ≡ true → (t && u && v) ≡ false → t ≡ false
    alone true u v p r n = absurd (cc)
    alone false u v p r n = refl

    by : Ordered c last e es → Shows left s first b e es ≡ false → (t : Bool) → leb e.day day ≡ t → (e.day ≤ day → is_owed_then left es s day ≡ false) → is_owed_then left (e ∷ es) s day ≡ false
    by parts shows true p rest =
        let there : e.day ≤ day = grind (arith, nat_tests) in
        owed-later left s day e es there ∙ rest there
    by parts shows false p rest =
        let before : day < e.day = grind (arith, nat_tests) in
        let behind : leb b e.day ≡ true = grind (arith, nat_tests) in
        let later : ltb first e.day ≡ true = grind (arith, nat_tests) in
        owed-all left s day last e es parts.rest before ∙ alone (IsOwed (left -ℤ balance s (e ∷ es))) (leb b e.day) (ltb first e.day) behind later shows

-- ---- days in a row
any-in : (p : ℕ → Bool) (first n day : ℕ) → first ≤ day → day < first + n → p day ≡ true → list_any p (range_with_len first n) ≡ true
any-in p first zero day l m h = absurd (omega (arith, l, m))
any-in p first (suc n) day l m h = by (eqb day first) refl (λ low. any-in p (first + 1) n day low (omega (arith, m)) h)
  where
    either : (t : Bool) → (t || true) ≡ true
    either true = refl
    either false = refl

    by : (t : Bool) → eqb day first ≡ t → (first + 1 ≤ day → list_any p (range_with_len (first + 1) n) ≡ true) → (p first || list_any p (range_with_len (first + 1) n)) ≡ true
    by true q rest =
        let same : day ≡ first = grind (arith, nat_tests) in
        ap (λ t. t || list_any p (range_with_len (first + 1) n)) (ap p (sym same) ∙ h)
    by false q rest =
        let low : first + 1 ≤ day = grind (arith, nat_tests) in
        ap (λ t. p first || t) (rest low) ∙ either (p first)

none-in : (p : ℕ → Bool) (first n : ℕ) → ((day : ℕ) → first ≤ day → p day ≡ false) → list_any p (range_with_len first n) ≡ false
none-in p first zero h = refl
none-in p first (suc n) h =
    ap (λ t. t || list_any p (range_with_len (first + 1) n)) (h first (omega arith)) ∙ none-in p (first + 1) n (λ day l. h day (omega (arith, l)))

pub between-is : (left : ℤ) (s first last : ℕ) (es : List Entry) (c : ℕ) → first ≤ last → are_in_order c last es ≡ true
    → is_owed_between left s first 0 es ≡ (is_owed_then left es s first || list_any (is_owed_after left es s first last) es)
between-is left s first last es c l h = by (is_owed_between left s first 0 es) refl ∙ (days-enough left es s first (last - first) ∙ ap (λ n. is_owed_then left es s first || After left es s first n) end)
  where
    end : first + (last - first) ≡ last
    end = omega (arith, l)

    from-zero : are_in_order 0 last es ≡ true
    from-zero = from-earlier 0 c last es (omega arith) h

    by : (t : Bool) → is_owed_between left s first 0 es ≡ t → t ≡ list_any (is_owed_then left es s) (range_with_len first (suc (last - first)))
    by true q =
        found left s first last 0 0 es l (omega arith) from-zero q (true ≡ list_any (is_owed_then left es s) (range_with_len first (suc (last - first))))
        (λ day f g i o. sym (any-in (is_owed_then left es s) first (suc (last - first)) day f (omega (arith, f, i)) o))
    by false q =
        sym (none-in (is_owed_then left es s) first (suc (last - first)) (λ day f. none left s first last 0 0 es (omega arith) from-zero q day f (omega arith)))

-- ---- from the last entry back
behind-zero : (b : ℕ) (es : List Entry) → day_behind b es 0 ≡ b
unfolding day_behind
behind-zero b es = refl

pub behind-first : (es : List Entry) → day_behind 0 es 0 ≡ 0
behind-first es = behind-zero 0 es

behind-nil : (b n : ℕ) → day_behind b [] (suc n) ≡ b
unfolding day_behind
behind-nil b n = refl

behind-cons : (b : ℕ) (e : Entry) (es : List Entry) (n : ℕ) → day_behind b (e ∷ es) (suc n) ≡ day_behind (e.day + 1) es n
unfolding day_behind
behind-cons b e es n = refl

pub behind-more : (b : ℕ) (es : List Entry) (n : ℕ) (d : Entry) → n < length es → day_behind b es (suc n) ≡ (get_or es n d).day + 1
behind-more b [] n d l = absurd (omega (arith, l))
behind-more b (e ∷ es) zero d l = behind-cons b e es 0 ∙ behind-zero (e.day + 1) es
behind-more b (e ∷ es) (suc n) d l = behind-cons b e es (suc n) ∙ behind-more (e.day + 1) es n d (omega (arith, l))

-- the first entry is of a day behind those of none, and each other one where its day is another than that of the one before
pub begins-first : (es : List Entry) (place day : ℕ) → place ≡ 0 → leb (day_behind 0 es place) day ≡ true
begins-first es place day z =
    let low : leb 0 day ≡ true = grind (arith, nat_tests) in
    ap (λ n. leb (day_behind 0 es n) day) z ∙ (ap (λ d. leb d day) (behind-first es) ∙ low)

pub begins-later : (es : List Entry) (place day : ℕ) (e : Entry) → 0 < place → place ≤ length es → e ≡ get_or es (place - 1) e → ltb e.day day ≡ leb (day_behind 0 es place) day
begins-later es place day e low high is =
    let next : place ≡ suc (place - 1) = omega (arith, low) in
    let behind : day_behind 0 es place ≡ e.day + 1 = ap (λ n. day_behind 0 es n) next ∙ (behind-more 0 es (place - 1) e (omega (arith, low, high)) ∙ ap (λ (x : Entry). x.day + 1) (sym is)) in
    test e.day (ltb e.day day) refl ∙ ap (λ d. leb d day) (sym behind)
  where
    test : (d : ℕ) (t : Bool) → ltb d day ≡ t → ltb d day ≡ leb (d + 1) day
    test d true q = let r : leb (d + 1) day ≡ true = grind (arith, nat_tests) in q ∙ sym r
    test d false q = let r : leb (d + 1) day ≡ false = grind (arith, nat_tests) in q ∙ sym r

-- what is owed between the last of them is so between all
pub reaches : (left : ℤ) (s first b : ℕ) (es : List Entry) (n : ℕ) → is_owed_between left s first (day_behind b es n) (drop n es) ≡ true → is_owed_between left s first b es ≡ true
reaches left s first b es zero q = ap (λ (d : ℕ). is_owed_between left s first d es) (sym (behind-zero b es)) ∙ q
reaches left s first b [] (suc n) q = ap (λ (d : ℕ). is_owed_between left s first d []) (sym (behind-nil b n)) ∙ q
reaches left s first b (e ∷ es) (suc n) q =
    between-cons left s first b e es
    ∙ (ap (λ t. Shows left s first b e es || t) (reaches left s first (e.day + 1) es n (ap (λ (d : ℕ). is_owed_between left s first d (drop n es)) (sym (behind-cons b e es n)) ∙ q))
    ∙ either (Shows left s first b e es))
  where
    either : (t : Bool) → (t || true) ≡ true
    either true = refl
    either false = refl

-- behind all of them
pub at-end : (left : ℤ) (s first : ℕ) (es : List Entry) (t : Bool) → IsOwed left ≡ t → (n : ℕ) → n ≡ length es → is_owed_between left s first (day_behind 0 es n) (drop n es) ≡ t
at-end left s first es t h n is = ap (is_owed_between left s first (day_behind 0 es n)) (drop_all n es (omega (arith, is))) ∙ (between-nil left s first (day_behind 0 es n) ∙ h)

pub begins-back : (z : ℤ) (s : ℕ) (es : List Entry) (n : ℕ) → n ≡ length es → z ≡ z -ℤ balance s (drop n es)
begins-back z s es n is = sym (ap (λ (l : List Entry). z -ℤ balance s l) (drop_all n es (omega (arith, is))) ∙ plain z)
  where
    plain : (z : ℤ) → z -ℤ pos 0 ≡ z
    plain z = omega (arith, ints)

-- how large sums are
pub room-back : (n : ℕ) (z : ℤ) → IsWithin (2 ^ 63) z → IsWithin (2 ^ 63 + (n - n) * 2 ^ 63) z
room-back n z h = wider (2 ^ 63) (2 ^ 63 + (n - n) * 2 ^ 63) z (omega arith) h

pub one-back : (count p i : ℕ) (z : ℤ) → p + 1 ≡ i → i ≤ count → IsWithin (2 ^ 63 + (count - i) * 2 ^ 63 + 2 ^ 63) z → IsWithin (2 ^ 63 + (count - p) * 2 ^ 63) z
one-back count p i z e l h = wider (2 ^ 63 + (count - i) * 2 ^ 63 + 2 ^ 63) (2 ^ 63 + (count - p) * 2 ^ 63) z (more (count - i) (count - p) (omega (arith, e, l))) h
  where
    more : (a b : ℕ) → b ≡ a + 1 → 2 ^ 63 + a * 2 ^ 63 + 2 ^ 63 ≤ 2 ^ 63 + b * 2 ^ 63
    more a b e = rw e (omega arith)

-- one entry further back
pub balance-back : (left sum more next : ℤ) (s : ℕ) (es : List Entry) (p : ℕ) (e : Entry) → p < length es → e ≡ get_or es p e → sum ≡ left -ℤ balance s (drop (p + 1) es)
    → more ≡ balance s (e ∷ []) → next ≡ sum -ℤ more → next ≡ left -ℤ balance s (drop p es)
balance-back left sum more next s es p e l is h m n =
    let whole : balance s (drop p es) ≡ cond (eqb e.segment s) e.cents (pos 0) +ℤ balance s (drop (p + 1) es) = ap (balance s) (drop_more es p e l ∙ ap (λ (x : Entry). x ∷ drop (p + 1) es) (sym is)) in
    joins left (balance s (drop (p + 1) es)) (cond (eqb e.segment s) e.cents (pos 0)) sum more next (balance s (drop p es)) h m n whole
  where
    joins : (a b c s m d t : ℤ) → s ≡ a -ℤ b → m ≡ c +ℤ pos 0 → d ≡ s -ℤ m → t ≡ c +ℤ b → d ≡ a -ℤ t
    joins a b c s m d t p q r u = omega (arith, ints, p, q, r, u)

pub between-back : (left sum : ℤ) (s first : ℕ) (es : List Entry) (p : ℕ) (e : Entry) (t u : Bool) → p < length es → e ≡ get_or es p e → sum ≡ left -ℤ balance s (drop p es)
    → (IsOwed sum && leb (day_behind 0 es p) e.day && ltb first e.day) ≡ t → is_owed_between left s first (day_behind 0 es (p + 1)) (drop (p + 1) es) ≡ u
    → is_owed_between left s first (day_behind 0 es p) (drop p es) ≡ (t || u)
between-back left sum s first es p e t u l is h q r =
    let here : drop p es ≡ e ∷ drop (p + 1) es = drop_more es p e l ∙ ap (λ (x : Entry). x ∷ drop (p + 1) es) (sym is) in
    let next : day_behind 0 es (p + 1) ≡ e.day + 1 = ap (λ n. day_behind 0 es n) (one p) ∙ (behind-more 0 es p e l ∙ ap (λ (x : Entry). x.day + 1) (sym is)) in
    let sums : left -ℤ balance s (e ∷ drop (p + 1) es) ≡ sum = ap (λ (l : List Entry). left -ℤ balance s l) (sym here) ∙ sym h in
    let shows : Shows left s first (day_behind 0 es p) e (drop (p + 1) es) ≡ t = ap (λ z. IsOwed z && leb (day_behind 0 es p) e.day && ltb first e.day) sums ∙ q in
    let rest : is_owed_between left s first (e.day + 1) (drop (p + 1) es) ≡ u = ap (λ (d : ℕ). is_owed_between left s first d (drop (p + 1) es)) (sym next) ∙ r in
    ap (is_owed_between left s first (day_behind 0 es p)) here
    ∙ (between-cons left s first (day_behind 0 es p) e (drop (p + 1) es)
    ∙ (ap (λ b. b || is_owed_between left s first (e.day + 1) (drop (p + 1) es)) shows ∙ ap (λ b. t || b) rest))
  where
    one : (p : ℕ) → p + 1 ≡ suc p
    one p = omega arith
