-- What a list of the posts of which something is said says of each post.
use Rattle.std.proofs.Common.{◌≡◌, ℕ, zero, suc, ◌+◌, ◌-◌, ◌<◌, ◌≤◌, Bool, true, false, cond, ◌&&◌, ◌==◌, nat_lt, List, [], ◌∷◌, ◌++◌, take, length, get_or, set, refl, sym, ap, ◌∙◌, subst, arith}
use Rattle.std.specs.List.{insert}
use Rattle.std.specs.List.Sorted.{IsPartitionedBy}
use Rattle.std.proofs.lemmas.Bool.Decides.{nat_tests}
use Rattle.card_posts.specs.Later.{AreAscending, AreWithin, IsPlaceOf, AreSaid, IsPut, each_from, nothing, said_of}
use Rattle.card_posts.specs.declared.correction.Correction.{Correction}
use Rattle.card_posts.specs.declared.correction_table.Said.{Said}

abbrev pub make : ℕ → Correction → Said
make n c = record { number = n; correction = c }

same : (a b : ℕ) → a ≡ b → (a == b) ≡ true
same a b e = grind (arith, nat_tests, e)

other : (a b : ℕ) → (a ≡ b → ⊥) → (a == b) ≡ false
other a b h = grind (arith, nat_tests)

swapped : (a b : ℕ) → (a == b) ≡ (b == a)
swapped a b = grind (arith, nat_tests)

equal : (a b : ℕ) → (a == b) ≡ true → a ≡ b
equal a b e = grind (arith, nat_tests, e)

apart : (a b : ℕ) → (a == b) ≡ false → a ≡ b → ⊥
apart a b e f = grind (arith, nat_tests)

-- ---- the place of a number
place-less : (n : ℕ) (s : Said) (ss : List Said) (p : ℕ) → IsPlaceOf n (s ∷ ss) (suc p) → IsPlaceOf n ss p
place-less n s ss p h = record {
  front = λ k d l m. h.front (suc k) d (omega (arith, l)) (omega (arith, m));
  back = λ k d l m. h.back (suc k) d (omega (arith, l)) (omega (arith, m));
  within = omega (arith, h.within);
}

all-above : (low : ℕ) (ss : List Said) (j : ℕ) (d : Said) → AreAscending low ss → j < length ss → low ≤ (get_or ss j d).number
unfolding AreAscending
all-above low [] j d h l = absurd (omega (arith, l))
all-above low (s ∷ ss) zero d h l = h.0
all-above low (s ∷ ss) (suc j) d h l = let r = all-above (suc s.number) ss j d h.1 (omega (arith, l)) in omega (arith, r, h.0)

-- the search of a place finds it
pub ascending-parted : (n low : ℕ) (ss : List Said) → AreAscending low ss → IsPartitionedBy (λ (s : Said). nat_lt s.number n) ss
unfolding AreAscending
ascending-parted n low [] h i j d less l e = absurd (omega (arith, l))
ascending-parted n low (s ∷ ss) h zero zero d less l e = e
ascending-parted n low (s ∷ ss) h zero (suc j) d less l e =
    let above = all-above (suc s.number) ss j d h.1 (omega (arith, l)) in
    under s.number (get_or ss j d).number n above e
  where
    under : (a b c : ℕ) → suc a ≤ b → nat_lt b c ≡ true → nat_lt a c ≡ true
    under a b c l e = grind (arith, nat_tests)
ascending-parted n low (s ∷ ss) h (suc i) zero d less l e = absurd (omega (arith, less))
ascending-parted n low (s ∷ ss) h (suc i) (suc j) d less l e = ascending-parted n (suc s.number) ss h.1 i j d (omega (arith, less)) (omega (arith, l)) e

-- ---- what is said of one post
-- nothing of one before the first
said-before : (n low : ℕ) (ss : List Said) → AreAscending low ss → n < low → said_of n ss ≡ nothing
unfolding said_of AreAscending
said-before n low [] h l = refl
said-before n low (s ∷ ss) h l = rw (other s.number n (λ e. omega (arith, e, l, h.0))) (said-before n (suc s.number) ss h.1 (omega (arith, l, h.0)))

-- nothing of one behind the last
pub said-behind : (n high : ℕ) (ss : List Said) → AreWithin high ss → high < n → said_of n ss ≡ nothing
unfolding said_of AreWithin
said-behind n high [] h l = refl
said-behind n high (s ∷ ss) h l = rw (other s.number n (λ e. omega (arith, e, l, h.0))) (said-behind n high ss h.1 l)

pub said-found : (n : ℕ) (ss : List Said) (p : ℕ) (d : Said) → IsPlaceOf n ss p → p < length ss → (get_or ss p d).number ≡ n → said_of n ss ≡ (get_or ss p d).correction
unfolding said_of
said-found n [] p d h l e = absurd (omega (arith, l))
said-found n (s ∷ ss) zero d h l e = rw (same s.number n e) refl
said-found n (s ∷ ss) (suc p) d h l e =
    let less = h.front 0 d (omega arith) (omega arith) in
    rw (other s.number n (λ f. omega (arith, f, less))) (said-found n ss p d (place-less n s ss p h) (omega (arith, l)) e)

pub said-missing : (n low : ℕ) (ss : List Said) (p : ℕ) → AreAscending low ss → IsPlaceOf n ss p → ((d : Said) → p < length ss → (get_or ss p d).number ≡ n → ⊥) → said_of n ss ≡ nothing
unfolding said_of AreAscending
said-missing n low [] p a h none = refl
said-missing n low (s ∷ ss) zero a h none =
    let least = h.back 0 s (omega arith) (omega arith) in
    rw (other s.number n (λ f. none s (omega arith) f)) (said-before n (suc s.number) ss a.1 (omega (arith, least)))
said-missing n low (s ∷ ss) (suc p) a h none =
    let less = h.front 0 s (omega arith) (omega arith) in
    rw (other s.number n (λ f. omega (arith, f, less))) (said-missing n (suc s.number) ss p a.1 (place-less n s ss p h) (λ d l e. none d (omega (arith, l)) e))

-- ---- what is said of one post is put in place of what was said
said-set : (m n : ℕ) (c : Correction) (ss : List Said) (p : ℕ) (d : Said) → IsPlaceOf n ss p → p < length ss → (get_or ss p d).number ≡ n → said_of m (set ss p (make n c)) ≡ cond (m == n) c (said_of m ss)
unfolding said_of
said-set m n c [] p d h l e = absurd (omega (arith, l))
said-set m n c (s ∷ ss) zero d h l e = rw (e, swapped n m) (by (m == n))
  where
    by : (b : Bool) → cond b c (said_of m ss) ≡ cond b c (cond b s.correction (said_of m ss))
    by true = refl
    by false = refl
said-set m n c (s ∷ ss) (suc p) d h l e =
    let less = h.front 0 d (omega arith) (omega arith) in
    by (s.number == m) (m == n) refl refl less (said-set m n c ss p d (place-less n s ss p h) (omega (arith, l)) e)
  where
    by : (b q : Bool) → (s.number == m) ≡ b → (m == n) ≡ q → s.number < n → said_of m (set ss p (make n c)) ≡ cond q c (said_of m ss)
        → cond b s.correction (said_of m (set ss p (make n c))) ≡ cond q c (cond b s.correction (said_of m ss))
    by true true f g less r = let x = equal s.number m f in let y = equal m n g in absurd (omega (arith, x, y, less))
    by true false f g less r = refl
    by false q f g less r = r

said-insert : (m n : ℕ) (c : Correction) (ss : List Said) (p : ℕ) → IsPlaceOf n ss p → said_of m (insert ss p (make n c)) ≡ cond (m == n) c (said_of m ss)
unfolding said_of
said-insert m n c ss zero h = rw (swapped n m) refl
said-insert m n c [] (suc p) h = absurd (omega (arith, h.within))
said-insert m n c (s ∷ ss) (suc p) h =
    let less = h.front 0 s (omega arith) (omega arith) in
    by (s.number == m) (m == n) refl refl less (said-insert m n c ss p (place-less n s ss p h))
  where
    by : (b q : Bool) → (s.number == m) ≡ b → (m == n) ≡ q → s.number < n → said_of m (insert ss p (make n c)) ≡ cond q c (said_of m ss)
        → cond b s.correction (said_of m (insert ss p (make n c))) ≡ cond q c (cond b s.correction (said_of m ss))
    by true true f g less r = let x = equal s.number m f in let y = equal m n g in absurd (omega (arith, x, y, less))
    by true false f g less r = refl
    by false q f g less r = r

ascending-set : (n low : ℕ) (c : Correction) (ss : List Said) (p : ℕ) (d : Said) → AreAscending low ss → p < length ss → (get_or ss p d).number ≡ n → AreAscending low (set ss p (make n c))
unfolding AreAscending
ascending-set n low c [] p d a l e = absurd (omega (arith, l))
ascending-set n low c (s ∷ ss) zero d a l e = (subst (λ m. low ≤ m) e a.0, subst (λ m. AreAscending (suc m) ss) e a.1)
ascending-set n low c (s ∷ ss) (suc p) d a l e = (a.0, ascending-set n (suc s.number) c ss p d a.1 (omega (arith, l)) e)

-- the first of a list is greater than n
more-ascending : (n low : ℕ) (ss : List Said) → AreAscending low ss → ((d : Said) → 0 < length ss → n < (get_or ss 0 d).number) → AreAscending (suc n) ss
unfolding AreAscending
more-ascending n low [] a h = tt
more-ascending n low (s ∷ ss) a h = let l = h s (omega arith) in (omega (arith, l), a.1)

ascending-insert : (n low : ℕ) (c : Correction) (ss : List Said) (p : ℕ) → AreAscending low ss → IsPlaceOf n ss p → ((d : Said) → p < length ss → (get_or ss p d).number ≡ n → ⊥) → low ≤ n → AreAscending low (insert ss p (make n c))
unfolding AreAscending
ascending-insert n low c ss zero a h none l = (l, more-ascending n low ss a (λ d m. greater n (get_or ss 0 d).number (h.back 0 d (omega arith) m) (none d m)))
  where
    greater : (x y : ℕ) → x ≤ y → (y ≡ x → ⊥) → x < y
    greater x y l differs = grind (arith, nat_tests)
ascending-insert n low c [] (suc p) a h none l = absurd (omega (arith, h.within))
ascending-insert n low c (s ∷ ss) (suc p) a h none l =
    let less = h.front 0 s (omega arith) (omega arith) in
    (a.0, ascending-insert n (suc s.number) c ss p a.1 (place-less n s ss p h) (λ d m e. none d (omega (arith, m)) e) (omega (arith, less)))

within-set : (n high : ℕ) (c : Correction) (ss : List Said) (p : ℕ) → AreWithin high ss → n ≤ high → AreWithin high (set ss p (make n c))
unfolding AreWithin
within-set n high c [] p a l = tt
within-set n high c (s ∷ ss) zero a l = (l, a.1)
within-set n high c (s ∷ ss) (suc p) a l = (a.0, within-set n high c ss p a.1 l)

within-insert : (n high : ℕ) (c : Correction) (ss : List Said) (p : ℕ) → AreWithin high ss → n ≤ high → p ≤ length ss → AreWithin high (insert ss p (make n c))
unfolding AreWithin
within-insert n high c ss zero a l m = (l, a)
within-insert n high c [] (suc p) a l m = absurd (omega (arith, m))
within-insert n high c (s ∷ ss) (suc p) a l m = (a.0, within-insert n high c ss p a.1 l (omega (arith, m)))

pub put-set : (n : ℕ) (c : Correction) (ss : List Said) (p : ℕ) (d : Said) → AreAscending 1 ss → IsPlaceOf n ss p → p < length ss → (get_or ss p d).number ≡ n → IsPut n c ss (set ss p (make n c))
put-set n c ss p d a h l e = record {
  says = λ m. said-set m n c ss p d h l e;
  ascending = ascending-set n 1 c ss p d a l e;
  within = λ high m w. within-set n high c ss p w m;
}

pub put-insert : (n : ℕ) (c : Correction) (ss : List Said) (p : ℕ) → AreAscending 1 ss → IsPlaceOf n ss p → ((d : Said) → p < length ss → (get_or ss p d).number ≡ n → ⊥) → 1 ≤ n → IsPut n c ss (insert ss p (make n c))
put-insert n c ss p a h none l = record {
  says = λ m. said-insert m n c ss p h;
  ascending = ascending-insert n 1 c ss p a h none l;
  within = λ high m w. within-insert n high c ss p w m h.within;
}

-- ---- what is said of the posts before one
said-front : (m n low : ℕ) (ss : List Said) (p : ℕ) → AreAscending low ss → IsPlaceOf n ss p → m < n → said_of m (take p ss) ≡ said_of m ss
unfolding said_of AreAscending
said-front m n low [] p a h l = let e : take p [] ≡ [] = none p in ap (said_of m) e
  where
    none : (p : ℕ) → take {A = Said} p [] ≡ []
    none zero = refl
    none (suc p) = refl
said-front m n low (s ∷ ss) zero a h l =
    let least = h.back 0 s (omega arith) (omega arith) in
    rw (other s.number m (λ e. omega (arith, e, least, l))) (sym (said-before m (suc s.number) ss a.1 (omega (arith, least, l))))
said-front m n low (s ∷ ss) (suc p) a h l = ap (cond (s.number == m) s.correction) (said-front m n (suc s.number) ss p a.1 (place-less n s ss p h) l)

pub front-ascending : (low : ℕ) (ss : List Said) (p : ℕ) → AreAscending low ss → AreAscending low (take p ss)
unfolding AreAscending
front-ascending low ss zero a = tt
front-ascending low [] (suc p) a = tt
front-ascending low (s ∷ ss) (suc p) a = (a.0, front-ascending (suc s.number) ss p a.1)

pub front-within : (n : ℕ) (ss : List Said) (p : ℕ) → IsPlaceOf n ss p → AreWithin (n - 1) (take p ss)
unfolding AreWithin
front-within n ss zero h = tt
front-within n [] (suc p) h = tt
front-within n (s ∷ ss) (suc p) h = let less = h.front 0 s (omega arith) (omega arith) in (omega (arith, less), front-within n ss p (place-less n s ss p h))

-- ---- what is said of each post
pub each-length : (n count : ℕ) (ss : List Said) → length (each_from n count ss) ≡ count
unfolding each_from
each-length n zero ss = refl
each-length n (suc count) ss = ap suc (each-length (suc n) count ss)

pub each-at : (n count i : ℕ) (ss : List Said) (d : Correction) → i < count → get_or (each_from n count ss) i d ≡ said_of (n + i) ss
unfolding each_from
each-at n zero i ss d l = absurd (omega (arith, l))
each-at n (suc count) zero ss d l = let e : n ≡ n + 0 = omega arith in ap (λ m. said_of m ss) e
each-at n (suc count) (suc i) ss d l = let e : suc n + i ≡ n + suc i = omega arith in each-at (suc n) count i ss d (omega (arith, l)) ∙ ap (λ m. said_of m ss) e

pub each-more : (n count : ℕ) (ss : List Said) → each_from n (suc count) ss ≡ each_from n count ss ++ said_of (n + count) ss ∷ []
unfolding each_from
each-more n zero ss = let e : n ≡ n + 0 = omega arith in ap (λ m. said_of m ss ∷ []) e
each-more n (suc count) ss = let e : suc n + count ≡ n + suc count = omega arith in ap (λ u. said_of n ss ∷ u) (each-more (suc n) count ss ∙ ap (λ m. each_from (suc n) count ss ++ said_of m ss ∷ []) e)

pair : (x y : Correction) (xs ys : List Correction) → x ≡ y → xs ≡ ys → x ∷ xs ≡ y ∷ ys
pair x y xs ys e f = rw (e, f) refl

each-same : (n count : ℕ) (ss rs : List Said) → ((m : ℕ) → n ≤ m → m < n + count → said_of m rs ≡ said_of m ss) → each_from n count rs ≡ each_from n count ss
unfolding each_from
each-same n zero ss rs h = refl
each-same n (suc count) ss rs h = pair _ _ _ _ (h n (omega arith) (omega arith)) (each-same (suc n) count ss rs (λ m l u. h m (omega (arith, l)) (omega (arith, u))))

pub each-set : (n i count : ℕ) (c : Correction) (ss rs : List Said) → ((m : ℕ) → said_of m rs ≡ cond (m == n + i) c (said_of m ss)) → each_from n count rs ≡ set (each_from n count ss) i c
unfolding each_from
each-set n i zero c ss rs h = refl
each-set n zero (suc count) c ss rs h =
    let here : (n == n + 0) ≡ true = same n (n + 0) (omega arith) in
    let first : said_of n rs ≡ c = h n ∙ ap (λ b. cond b c (said_of n ss)) here in
    pair _ _ _ _ first (each-same (suc n) count ss rs (λ m l u. h m ∙ ap (λ b. cond b c (said_of m ss)) (other m (n + 0) (λ e. omega (arith, e, l)))))
each-set n (suc i) (suc count) c ss rs h =
    let apart : (n == n + suc i) ≡ false = other n (n + suc i) (λ e. omega (arith, e)) in
    let first : said_of n rs ≡ said_of n ss = h n ∙ ap (λ b. cond b c (said_of n ss)) apart in
    let next : n + suc i ≡ suc n + i = omega arith in
    pair _ _ _ _ first (each-set (suc n) i count c ss rs (λ m. h m ∙ ap (λ x. cond (m == x) c (said_of m ss)) next))

take-all : (xs : List Correction) (x : Correction) (n : ℕ) → length xs ≡ n → take n (xs ++ x ∷ []) ≡ xs
take-all [] x zero e = refl
take-all [] x (suc n) e = absurd (omega (arith, e))
take-all (y ∷ xs) x zero e = absurd (omega (arith, e))
take-all (y ∷ xs) x (suc n) e = ap (λ u. y ∷ u) (take-all xs x n (omega (arith, e)))

-- without the last post
pub each-front : (count : ℕ) (ss : List Said) (p : ℕ) → AreAscending 1 ss → IsPlaceOf (suc count) ss p → each_from 1 count (take p ss) ≡ take count (each_from 1 (suc count) ss)
each-front count ss p a h =
    each-same 1 count ss (take p ss) (λ m l u. said-front m (suc count) 1 ss p a h (omega (arith, u)))
    ∙ sym (ap (take count) (each-more 1 count ss) ∙ take-all (each_from 1 count ss) (said_of (1 + count) ss) count (each-length 1 count ss))

-- what the test of a place says
pub there : (a b x y : ℕ) → (nat_lt a b && (x == y)) ≡ true → (a < b) × (x ≡ y)
there a b x y e = (grind (arith, nat_tests, e), grind (arith, nat_tests, e))

pub not-there : (a b x y : ℕ) → (nat_lt a b && (x == y)) ≡ false → a < b → x ≡ y → ⊥
not-there a b x y e l f = grind (arith, nat_tests, e, l, f)

abbrev pub blank : Said
blank = make 0 nothing

pub there-at : (n p : ℕ) (ss rs : List Said) (r : Bool) → rs ≡ ss → r ≡ (nat_lt p (length rs) && ((get_or rs p blank).number == n)) → r ≡ true → (p < length ss) × ((get_or ss p blank).number ≡ n)
there-at n p ss rs r e is some =
    let tested : (nat_lt p (length ss) && ((get_or ss p blank).number == n)) ≡ true = ap (λ us. nat_lt p (length us) && ((get_or us p blank).number == n)) (sym e) ∙ (sym is ∙ some) in
    there p (length ss) (get_or ss p blank).number n tested

pub not-there-at : (n p : ℕ) (ss rs : List Said) (r : Bool) → rs ≡ ss → ((d : Said) → r ≡ (nat_lt p (length rs) && ((get_or rs p d).number == n))) → r ≡ false → (d : Said) → p < length ss → (get_or ss p d).number ≡ n → ⊥
not-there-at n p ss rs r e is none d =
    let tested : (nat_lt p (length ss) && ((get_or ss p d).number == n)) ≡ false = ap (λ us. nat_lt p (length us) && ((get_or us p d).number == n)) (sym e) ∙ (sym (is d) ∙ none) in
    not-there p (length ss) (get_or ss p d).number n tested

-- ---- the table
-- of one post
pub none-said : AreSaid 1 []
unfolding AreAscending AreWithin
none-said = record { few = omega arith; ascending = tt; within = tt }

pub none-each : each_from 1 1 [] ≡ nothing ∷ []
unfolding each_from said_of
none-each = refl

-- with one more post
pub within-more : (high : ℕ) (ss : List Said) → AreWithin high ss → AreWithin (high + 1) ss
unfolding AreWithin
within-more high [] w = tt
within-more high (s ∷ ss) w = (omega (arith, w.0), within-more high ss w.1)

pub each-push : (count : ℕ) (ss : List Said) → AreWithin count ss → each_from 1 (count + 1) ss ≡ each_from 1 count ss ++ nothing ∷ []
each-push count ss w =
    let plus : count + 1 ≡ suc count = omega arith in
    ap (λ n. each_from 1 n ss) plus ∙ (each-more 1 count ss ∙ ap (λ c. each_from 1 count ss ++ c ∷ []) (said-behind (1 + count) count ss w (omega arith)))

-- without the last post
pub each-pop : (count : ℕ) (ss : List Said) (p : ℕ) → 1 ≤ count → AreAscending 1 ss → IsPlaceOf count ss p → each_from 1 (count - 1) (take p ss) ≡ take (length (each_from 1 count ss) - 1) (each_from 1 count ss)
each-pop zero ss p l a h = absurd (omega (arith, l))
each-pop (suc n) ss p l a h =
    let e : suc n - 1 ≡ n = omega arith in
    let long = each-length 1 (suc n) ss in
    let last : n ≡ length (each_from 1 (suc n) ss) - 1 = omega (arith, long) in
    ap (λ m. each_from 1 m (take p ss)) e ∙ (each-front n ss p a h ∙ ap (λ m. take m (each_from 1 (suc n) ss)) last)
