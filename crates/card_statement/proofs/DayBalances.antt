-- What is owed on a segment at the ends of days: only the days of its entries change it.
use Rattle.std.proofs.Common.{◌≡◌, ℕ, zero, suc, ◌+◌, ◌-◌, ◌*◌, ◌<◌, ◌≤◌, ◌^◌, Bool, true, false, not, ◌||◌, ◌&&◌, cond, List, [], ◌∷◌, ◌++◌, length, take, get_or, refl, sym, ap, ◌∙◌, arith, eqb, leb, ltb, ℤ, pos, negsuc, ◌+ℤ◌, ◌-ℤ◌, FitsSigned}
use Rattle.std.specs.List.{All, filter, list_any, range_with_len}
use Rattle.std.proofs.lemmas.Bool.Decides.{nat_tests}
use Rattle.std.proofs.lemmas.Int.{fits_signed_from_abs, ints}
use Rattle.std.proofs.lemmas.List.{take_more}
use Rattle.std.proofs.lemmas.List.Elements.{All-head, All-tail, filter-append}
use Rattle.card_model.proofs.Posted.{sum_of-append}
use Rattle.card_model.specs.Entries.{at_least_zero, balance}
use Rattle.card_model.specs.declared.entry.Entry.{Entry}
use Rattle.card_segments.specs.Balances.{IsWithin}
use Rattle.card_statement.specs.Lines.{entries_on, is_owed_on, was_owed}
use Rattle.card_statement.specs.Standing.{is_owed_after, is_owed_then, moved_after}
use Rattle.card_statement.proofs.SeenLines.{owed-then}
use mir.Syntax.{w128}

-- ---- how large sums are
pub less-within : (m k : ℕ) (y z : ℤ) → IsWithin m y → IsWithin k z → IsWithin (m + k) (y -ℤ z)
less-within m k y z h g = (let a = h.0 in let b = g.1 in omega (arith, ints), let a = h.1 in let b = g.0 in omega (arith, ints))

-- one of 128
pub fits-wide : (n : ℕ) (z : ℤ) → n < 2 ^ 127 → IsWithin n z → FitsSigned w128 z
fits-wide n (pos k) low within = fits_signed_from_abs w128 (pos k) (omega (arith, ints, within.1))
fits-wide n (negsuc k) low within = fits_signed_from_abs w128 (negsuc k) (omega (arith, ints, within.0))

pub wider : (m n : ℕ) (z : ℤ) → m ≤ n → IsWithin m z → IsWithin n z
wider m n z more within = (let a = within.0 in omega (arith, ints, a), let b = within.1 in omega (arith, ints, b))

-- so many entries behind a balance leave room for one more
pub room : (i count : ℕ) (z : ℤ) → i < count → count < 2 ^ 63 → IsWithin (2 ^ 63 + i * 2 ^ 63) z → IsWithin (2 ^ 127 - 2 ^ 64) z
room i count z low few within = wider (2 ^ 63 + i * 2 ^ 63) (2 ^ 127 - 2 ^ 64) z (omega arith) within

pub one-further : (n i : ℕ) (z : ℤ) → IsWithin (n + i * 2 ^ 63 + 2 ^ 63) z → IsWithin (n + (i + 1) * 2 ^ 63) z
one-further n i z within = wider (n + i * 2 ^ 63 + 2 ^ 63) (n + (i + 1) * 2 ^ 63) z (omega arith) within

-- ---- entries in turn
after-append : (s day : ℕ) (xs ys : List Entry) → moved_after s day (xs ++ ys) ≡ moved_after s day xs +ℤ moved_after s day ys
unfolding moved_after
after-append s day xs ys =
    ap (balance s) (filter-append (λ (e : Entry). ltb day e.day) xs ys)
    ∙ sum_of-append (λ (e : Entry). eqb e.segment s) (filter (λ (e : Entry). ltb day e.day) xs) (filter (λ (e : Entry). ltb day e.day) ys)

after-more : (s day : ℕ) (es : List Entry) (i : ℕ) (e : Entry) → i < length es → e ≡ get_or es i e
    → moved_after s day (take (i + 1) es) ≡ moved_after s day (take i es) +ℤ moved_after s day (e ∷ [])
after-more s day es i e l is =
    ap (moved_after s day) (take_more es i e l)
    ∙ (after-append s day (take i es) (get_or es i e ∷ [])
    ∙ ap (λ (x : Entry). moved_after s day (take i es) +ℤ moved_after s day (x ∷ [])) (sym is))

pub after-none : (s day : ℕ) → moved_after s day [] ≡ pos 0
unfolding moved_after
after-none s day = refl

-- the sum of those that pass, with one in front
sum-first : (p : Entry → Bool) (s : ℕ) (e : Entry) (es : List Entry)
    → balance s (filter p (e ∷ es)) ≡ cond (p e) (cond (eqb e.segment s) e.cents (pos 0) +ℤ balance s (filter p es)) (balance s (filter p es))
sum-first p s e es = by (p e) (filter p es)
  where
    by : (u : Bool) (fs : List Entry) → balance s (cond u (e ∷ fs) fs) ≡ cond u (cond (eqb e.segment s) e.cents (pos 0) +ℤ balance s fs) (balance s fs)
    by true fs = refl
    by false fs = refl

pub after-first : (s day : ℕ) (e : Entry) (es : List Entry)
    → moved_after s day (e ∷ es) ≡ cond (ltb day e.day) (cond (eqb e.segment s) e.cents (pos 0) +ℤ moved_after s day es) (moved_after s day es)
unfolding moved_after
after-first s day e es = sum-first (λ (x : Entry). ltb day x.day) s e es

pub moved-by : (s day : ℕ) (e : Entry) (t : Bool) → (eqb e.segment s && ltb day e.day) ≡ t → cond t e.cents (pos 0) ≡ moved_after s day (e ∷ [])
moved-by s day e t q =
    ap (λ (b : Bool). cond b e.cents (pos 0)) (sym q)
    ∙ (by (eqb e.segment s) (ltb day e.day) e.cents
    ∙ (ap (λ (z : ℤ). cond (ltb day e.day) (cond (eqb e.segment s) e.cents (pos 0) +ℤ z) z) (sym (after-none s day)) ∙ sym (after-first s day e [])))
  where
    by : (t u : Bool) (z : ℤ) → cond (t && u) z (pos 0) ≡ cond u (cond t z (pos 0) +ℤ pos 0) (pos 0)
    by true true z = omega (arith, ints)
    by true false z = refl
    by false true z = refl
    by false false z = refl

pub begins : (z : ℤ) (s day : ℕ) → z ≡ z -ℤ moved_after s day []
begins z s day = sym (ap (λ (x : ℤ). z -ℤ x) (after-none s day) ∙ plain z)
  where
    plain : (z : ℤ) → z -ℤ pos 0 ≡ z
    plain z = omega (arith, ints)

-- a balance less one entry more
pub goes-on : (left sum more next : ℤ) (s day : ℕ) (es : List Entry) (i : ℕ) (e : Entry) → i < length es → e ≡ get_or es i e → sum ≡ left -ℤ moved_after s day (take i es)
    → more ≡ moved_after s day (e ∷ []) → next ≡ sum -ℤ more → next ≡ left -ℤ moved_after s day (take (i + 1) es)
goes-on left sum more next s day es i e l is h m n =
    joins left (moved_after s day (take i es)) (moved_after s day (e ∷ [])) sum more next (moved_after s day (take (i + 1) es)) h m n (after-more s day es i e l is)
  where
    joins : (a b c s m d t : ℤ) → s ≡ a -ℤ b → m ≡ c → d ≡ s -ℤ m → t ≡ b +ℤ c → d ≡ a -ℤ t
    joins a b c s m d t p q r u = omega (arith, ints, p, q, r, u)

-- entries of the days before one move nothing after it
after-earlier : (s first day : ℕ) (es : List Entry) → first ≤ day → All (λ e. e.day < first) es → moved_after s day es ≡ pos 0
after-earlier s first day [] l h = after-none s day
after-earlier s first day (e ∷ es) l h =
    let low : e.day < first = All-head (λ (x : Entry). x.day < first) e es h in
    let not-now : ltb day e.day ≡ false = grind (arith, nat_tests) in
    let rest = after-earlier s first day es l (All-tail (λ (x : Entry). x.day < first) e es h) in
    after-first s day e es ∙ (ap (λ (b : Bool). cond b (cond (eqb e.segment s) e.cents (pos 0) +ℤ moved_after s day es) (moved_after s day es)) not-now ∙ rest)

-- what is moved by the end of a day, and what after it
by-and-after : (s day : ℕ) (es : List Entry) → balance s (filter (λ (e : Entry). leb e.day day) es) +ℤ moved_after s day es ≡ balance s es
by-and-after s day [] = ap (λ (z : ℤ). pos 0 +ℤ z) (after-none s day)
by-and-after s day (e ∷ es) =
    two (leb e.day day) (ltb day e.day) (cond (eqb e.segment s) e.cents (pos 0)) _ _ _ _ (balance s es) (tests e.day) (sum-first (λ (x : Entry). leb x.day day) s e es) (after-first s day e es) (by-and-after s day es)
  where
    tests : (d : ℕ) → ltb day d ≡ not (leb d day)
    tests d = by (leb d day) refl
      where
        by : (t : Bool) → leb d day ≡ t → ltb day d ≡ not t
        by true q = grind (arith, nat_tests)
        by false q = grind (arith, nat_tests)

    two : (t u : Bool) (x a b a' b' c : ℤ) → u ≡ not t → a' ≡ cond t (x +ℤ a) a → b' ≡ cond u (x +ℤ b) b → a +ℤ b ≡ c → a' +ℤ b' ≡ x +ℤ c
    two true true x a b a' b' c n p q r = absurd (cc)
    two true false x a b a' b' c n p q r = omega (arith, ints, p, q, r)
    two false true x a b a' b' c n p q r = omega (arith, ints, p, q, r)
    two false false x a b a' b' c n p q r = absurd (cc)

-- ---- a day more
pub or-none : (t u : Bool) → (t || u) ≡ false → (t ≡ false) × (u ≡ false)
or-none true u e = absurd (cc)
or-none false u e = (refl, e)

-- a day that no entry on the segment is of moves nothing on it
after-next : (s day : ℕ) (es : List Entry) → list_any (λ (e : Entry). eqb e.segment s && eqb e.day (day + 1)) es ≡ false → moved_after s (day + 1) es ≡ moved_after s day es
after-next s day [] h = after-none s (day + 1) ∙ sym (after-none s day)
after-next s day (e ∷ es) h =
    let parts = or-none (eqb e.segment s && eqb e.day (day + 1)) (list_any (λ (x : Entry). eqb x.segment s && eqb x.day (day + 1)) es) h in
    after-first s (day + 1) e es
    ∙ (step (eqb e.segment s) (eqb e.day (day + 1)) refl parts.0 (after-next s day es parts.1)
    ∙ sym (after-first s day e es))
  where
    plain : (t : Bool) (z : ℤ) → cond t (pos 0 +ℤ z) z ≡ z
    plain true z = omega (arith, ints)
    plain false z = refl

    same : (d day : ℕ) → eqb d (day + 1) ≡ false → ltb (day + 1) d ≡ ltb day d
    same d day q = grind (arith, nat_tests)

    joined : (t u : Bool) (x y z : ℤ) → t ≡ u → y ≡ z → cond t (x +ℤ y) y ≡ cond u (x +ℤ z) z
    joined t u x y z p q = rw (p, q) refl

    step : (t u : Bool) → eqb e.day (day + 1) ≡ u → (t && u) ≡ false → moved_after s (day + 1) es ≡ moved_after s day es
        → cond (ltb (day + 1) e.day) (cond t e.cents (pos 0) +ℤ moved_after s (day + 1) es) (moved_after s (day + 1) es)
        ≡ cond (ltb day e.day) (cond t e.cents (pos 0) +ℤ moved_after s day es) (moved_after s day es)
    step true true q n r = absurd (cc)
    step true false q n r = joined (ltb (day + 1) e.day) (ltb day e.day) e.cents _ _ (same e.day day q) r
    step false u q n r = plain (ltb (day + 1) e.day) (moved_after s (day + 1) es) ∙ (r ∙ sym (plain (ltb day e.day) (moved_after s day es)))

next-day : (left : ℤ) (es : List Entry) (s day : ℕ) → list_any (λ (e : Entry). eqb e.segment s && eqb e.day (day + 1)) es ≡ false → is_owed_then left es s (day + 1) ≡ is_owed_then left es s day
unfolding is_owed_then
next-day left es s day h = ap (λ (z : ℤ). ltb 0 (at_least_zero (left -ℤ z))) (after-next s day es h)

-- ---- the days of the entries are enough
any-by : {X : Type 0} (p q : X → Bool) → ((x : X) → p x ≡ q x) → (xs : List X) → list_any p xs ≡ list_any q xs
any-by p q h [] = refl
any-by p q h (x ∷ xs) = ap (λ t. t || list_any p xs) (h x) ∙ ap (λ t. q x || t) (any-by p q h xs)

any-more : {X : Type 0} (p q : X → Bool) → ((x : X) → p x ≡ true → q x ≡ true) → (xs : List X) → list_any p xs ≡ true → list_any q xs ≡ true
any-more p q h [] e = e
any-more p q h (x ∷ xs) e = by (p x) (q x) (h x) e (any-more p q h xs)
  where
    or-true : (t : Bool) → (t || true) ≡ true
    or-true true = refl
    or-true false = refl

    by : (t u : Bool) → (t ≡ true → u ≡ true) → (t || list_any p xs) ≡ true → (list_any p xs ≡ true → list_any q xs ≡ true) → (u || list_any q xs) ≡ true
    by true u i e rest = ap (λ b. b || list_any q xs) (i refl)
    by false u i e rest = ap (λ b. u || b) (rest e) ∙ or-true u

any-never : {X : Type 0} (p : X → Bool) → ((x : X) → p x ≡ false) → (xs : List X) → list_any p xs ≡ false
any-never p h [] = refl
any-never p h (x ∷ xs) = ap (λ t. t || list_any p xs) (h x) ∙ any-never p h xs

and-no : (t : Bool) → (t && false) ≡ false
and-no true = refl
and-no false = refl

-- an entry of the first day counts for nothing where nothing is owed at its end
later-only : (t : Bool) (first last day : ℕ) (b : Bool) → (day ≡ first → b ≡ false) → ((t && leb first day && leb day last) && b) ≡ ((t && leb (first + 1) day && leb day last) && b)
later-only t first last day false h = and-no (t && leb first day && leb day last) ∙ sym (and-no (t && leb (first + 1) day && leb day last))
later-only t first last day true h =
    let other : day ≡ first → false ≡ true = λ e. sym (h e) in
    ap (λ (u : Bool). (t && u && leb day last) && true) (same other)
  where
    same : (day ≡ first → false ≡ true) → leb first day ≡ leb (first + 1) day
    same other = by (eqb day first) refl
      where
        by : (u : Bool) → eqb day first ≡ u → leb first day ≡ leb (first + 1) day
        by true q = let e : day ≡ first = grind (arith, nat_tests) in let no = other e in absurd (cc)
        by false q = grind (arith, nat_tests)

none-first : (t : Bool) (first day : ℕ) (b : Bool) → (day ≡ first → b ≡ false) → ((t && leb first day && leb day (first + 0)) && b) ≡ false
none-first t first day false h = and-no (t && leb first day && leb day (first + 0))
none-first t first day true h = by (leb first day) (leb day (first + 0)) refl refl
  where
    no-left : (t v : Bool) → ((t && false && v) && true) ≡ false
    no-left true v = refl
    no-left false v = refl

    no-right : (t u : Bool) → ((t && u && false) && true) ≡ false
    no-right true true = refl
    no-right true false = refl
    no-right false u = refl

    by : (u v : Bool) → leb first day ≡ u → leb day (first + 0) ≡ v → ((t && u && v) && true) ≡ false
    by true true p q = let e : day ≡ first = grind (arith, nat_tests) in let no = h e in absurd (cc)
    by false v p q = no-left t v
    by true false p q = no-right t true

-- an entry of the next day is one of the days from that on
next-there : (t : Bool) (first last day : ℕ) (b : Bool) → first + 1 ≤ last → (day ≡ first + 1 → b ≡ true) → (t && eqb day (first + 1)) ≡ true → ((t && leb (first + 1) day && leb day last) && b) ≡ true
next-there false first last day b l h q = absurd (cc)
next-there true first last day b l h q =
    let e : day ≡ first + 1 = grind (arith, nat_tests) in
    let there = h e in
    let low : leb (first + 1) day ≡ true = grind (arith, nat_tests) in
    let high : leb day last ≡ true = grind (arith, nat_tests) in
    rw (low, high, there) refl

-- so many days on, something is owed at the end of one of them, or at the end of the first or of an entry's
abbrev pub After : ℤ → List Entry → ℕ → ℕ → ℕ → Bool
After left es s first last = list_any (is_owed_after left es s first last) es

pub days-enough : (left : ℤ) (es : List Entry) (s first n : ℕ)
    → list_any (is_owed_then left es s) (range_with_len first (suc n)) ≡ (is_owed_then left es s first || After left es s first (first + n))
days-enough left es s first zero = by (is_owed_then left es s first) refl
  where
    by : (t : Bool) → is_owed_then left es s first ≡ t → (t || false) ≡ (t || After left es s first (first + 0))
    by true q = refl
    by false q =
        sym (any-never (is_owed_after left es s first (first + 0)) (λ e. none-first (eqb e.segment s) first e.day (is_owed_then left es s e.day) (λ d. ap (is_owed_then left es s) d ∙ q)) es)
days-enough left es s first (suc n) = by (is_owed_then left es s first) refl (days-enough left es s (first + 1) n)
  where
    owed : ℕ → Bool
    owed = is_owed_then left es s

    same : first + 1 + n ≡ first + suc n
    same = omega arith

    later : owed first ≡ false → After left es s first (first + suc n) ≡ After left es s (first + 1) (first + 1 + n)
    later q =
        any-by (is_owed_after left es s first (first + suc n)) (is_owed_after left es s (first + 1) (first + suc n))
        (λ e. later-only (eqb e.segment s) first (first + suc n) e.day (owed e.day) (λ d. ap owed d ∙ q)) es
        ∙ ap (After left es s (first + 1)) (sym same)

    found : (u : Bool) → list_any (λ (e : Entry). eqb e.segment s && eqb e.day (first + 1)) es ≡ u → owed first ≡ false → owed (first + 1) ≡ true → After left es s (first + 1) (first + 1 + n) ≡ true
    found true h q now =
        any-more (λ (e : Entry). eqb e.segment s && eqb e.day (first + 1)) (is_owed_after left es s (first + 1) (first + 1 + n))
        (λ e k. next-there (eqb e.segment s) first (first + 1 + n) e.day (owed e.day) (omega arith) (λ d. ap owed d ∙ now) k) es h
    found false h q now = let no = next-day left es s first h in absurd (cc)

    either : (v : Bool) → owed (first + 1) ≡ v → owed first ≡ false → (v || After left es s (first + 1) (first + 1 + n)) ≡ After left es s (first + 1) (first + 1 + n)
    either true now q = sym (found (list_any (λ (e : Entry). eqb e.segment s && eqb e.day (first + 1)) es) refl q now)
    either false now q = refl

    by : (t : Bool) → owed first ≡ t → list_any owed (range_with_len (first + 1) (suc n)) ≡ (owed (first + 1) || After left es s (first + 1) (first + 1 + n))
        → (t || list_any owed (range_with_len (first + 1) (suc n))) ≡ (t || After left es s first (first + suc n))
    by true q rest = refl
    by false q rest = rest ∙ (either (owed (first + 1)) refl q ∙ sym (later q))

-- ---- behind earlier entries
any-range : (p q : ℕ → Bool) (first : ℕ) → ((day : ℕ) → first ≤ day → p day ≡ q day) → (m n : ℕ) → first ≤ m → list_any p (range_with_len m n) ≡ list_any q (range_with_len m n)
any-range p q first h m zero l = refl
any-range p q first h m (suc n) l =
    ap (λ t. t || list_any p (range_with_len (m + 1) n)) (h m l) ∙ ap (λ t. q m || t) (any-range p q first h (m + 1) n (omega arith))

owed-behind : (left : ℤ) (s first day : ℕ) (earlier es : List Entry) → first ≤ day → All (λ e. e.day < first) earlier → left ≡ balance s (earlier ++ es)
    → is_owed_on (entries_on s (earlier ++ es)) day ≡ is_owed_then left es s day
unfolding is_owed_then
owed-behind left s first day earlier es l h e =
    owed-then s day (earlier ++ es)
    ∙ ap (λ (z : ℤ). ltb 0 (at_least_zero z))
    (less left (balance s (filter (λ (x : Entry). leb x.day day) (earlier ++ es))) (moved_after s day (earlier ++ es)) (balance s (earlier ++ es)) (moved_after s day earlier) (moved_after s day es)
    (by-and-after s day (earlier ++ es)) (after-append s day earlier es) (after-earlier s first day earlier l h) e)
  where
    less : (left b a all before own : ℤ) → b +ℤ a ≡ all → a ≡ before +ℤ own → before ≡ pos 0 → left ≡ all → b ≡ left -ℤ own
    less left b a all before own p q r u = omega (arith, ints, p, q, r, u)

pub owed-from : (left : ℤ) (s first last : ℕ) (earlier es : List Entry) → first ≤ last → All (λ e. e.day < first) earlier → left ≡ balance s (earlier ++ es)
    → (is_owed_then left es s first || list_any (is_owed_after left es s first last) es) ≡ was_owed first last (entries_on s (earlier ++ es))
unfolding was_owed
owed-from left s first last earlier es l h e =
    let count : suc (last - first) ≡ last + 1 - first = omega (arith, l) in
    let end : first + (last - first) ≡ last = omega (arith, l) in
    ap (λ (n : ℕ). is_owed_then left es s first || After left es s first n) (sym end)
    ∙ (sym (days-enough left es s first (last - first))
    ∙ (ap (λ (n : ℕ). list_any (is_owed_then left es s) (range_with_len first n)) count
    ∙ sym (any-range (is_owed_on (entries_on s (earlier ++ es))) (is_owed_then left es s) first (λ day k. owed-behind left s first day earlier es k h e) first (last + 1 - first) (omega arith))))

-- no day at all
pub no-days : (s first last : ℕ) (es : List Entry) → last < first → false ≡ was_owed first last (entries_on s es)
unfolding was_owed
no-days s first last es l =
    let none : last + 1 - first ≡ 0 = omega (arith, l) in
    sym (ap (λ (n : ℕ). list_any (is_owed_on (entries_on s es)) (range_with_len first n)) none)
