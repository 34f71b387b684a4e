-- The orders of tasks.
use Rattle.std.proofs.Common.{◌≡◌, ℕ, nat_lt, ◌==◌, Bool, true, false, cond, List, [], ◌∷◌, refl, ap, ◌∙◌, arith}
use Rattle.std.specs.Prelude.{◌&&◌, ◌||◌}
use Rattle.std.specs.Cmp.{IsStrictWeakOrder}
use Rattle.std.specs.Cmp.Lexicographic.{slice_cmp}
use Rattle.std.specs.Ordering.{is_lt, nat_cmp, ordering_then}
use Rattle.std.specs.declared.cmp.Ordering.{Ordering}
use Rattle.std.specs.declared.cmp.Ordering.TheVariants.{Less, Equal, Greater}
use Rattle.std.proofs.lemmas.Bool.Decides.{nat_tests}
use Rattle.card_disputes.proofs.Sorting.{inserted, insertion}
use Rattle.card_model.specs.Deadlines.{by_day, with_task}
use Rattle.card_model.specs.Work.{in_work_order, is_name_before, is_task_before, with_work}
use Rattle.card_model.specs.declared.task.Task.{Task}

-- ---- by day
abbrev pub is_earlier : Task → Task → Bool
is_earlier t u = nat_lt t.by u.by

pub earlier-order : IsStrictWeakOrder is_earlier
earlier-order = record { one_way = λ t u e. one t.by u.by e; chain = λ t u v e f. next t.by u.by v.by e f }
  where
    one : (x y : ℕ) → nat_lt x y ≡ true → nat_lt y x ≡ false
    one x y e = grind (arith, nat_tests, e)

    next : (x y z : ℕ) → nat_lt x y ≡ false → nat_lt y z ≡ false → nat_lt x z ≡ false
    next x y z e f = grind (arith, nat_tests, e, f)

with-is : (t : Task) (us : List Task) → inserted is_earlier earlier-order t us ≡ with_task t us
unfolding with_task
with-is t [] = refl
with-is t (u ∷ us) = ap (λ l. cond (nat_lt u.by t.by) (u ∷ l) (t ∷ u ∷ us)) (with-is t us)

pub by_day-is : (ts : List Task) → insertion is_earlier earlier-order ts ≡ by_day ts
unfolding by_day
by_day-is [] = refl
by_day-is (t ∷ ts) = with-is t (insertion is_earlier earlier-order ts) ∙ ap (with_task t) (by_day-is ts)

-- ---- by day and account: the day before the bytes of the name
abbrev key : Task → List ℕ
key t = t.by ∷ t.account

key-before : (t u : Task) → is_name_before (key t) (key u) ≡ is_task_before t u
unfolding is_name_before
key-before t u = refl

one-way : (xs ys : List ℕ) → is_name_before xs ys ≡ true → is_name_before ys xs ≡ false
unfolding is_name_before
one-way [] [] e = cc
one-way [] (y ∷ ys) e = refl
one-way (x ∷ xs) [] e = cc
one-way (x ∷ xs) (y ∷ ys) e = at (nat_lt x y) (x == y) refl refl e (λ r. one-way xs ys r)
  where
    at : (b d : Bool) → nat_lt x y ≡ b → (x == y) ≡ d → (b || (d && is_name_before xs ys)) ≡ true → (is_name_before xs ys ≡ true → is_name_before ys xs ≡ false) → (nat_lt y x || ((y == x) && is_name_before ys xs)) ≡ false
    at true d p q r rest =
        let less : nat_lt y x ≡ false = grind (arith, nat_tests, p) in
        let other : (y == x) ≡ false = grind (arith, nat_tests, p) in
        rw (less, other) refl
    at false true p q r rest =
        let less : nat_lt y x ≡ false = grind (arith, nat_tests, q) in
        let equal : (y == x) ≡ true = grind (arith, nat_tests, q) in
        rw (less, equal) (rest r)
    at false false p q r rest = cc

chain : (xs ys zs : List ℕ) → is_name_before xs ys ≡ false → is_name_before ys zs ≡ false → is_name_before xs zs ≡ false
unfolding is_name_before
chain [] [] zs e f = f
chain [] (y ∷ ys) zs e f = cc
chain (x ∷ xs) ys [] e f = refl
chain (x ∷ xs) [] (z ∷ zs) e f = cc
chain (x ∷ xs) (y ∷ ys) (z ∷ zs) e f = at (nat_lt x y) (x == y) (nat_lt y z) (y == z) refl refl refl refl e f (λ p q. chain xs ys zs p q)
  where
    at : (b c d g : Bool) → nat_lt x y ≡ b → (x == y) ≡ c → nat_lt y z ≡ d → (y == z) ≡ g → (b || (c && is_name_before xs ys)) ≡ false → (d || (g && is_name_before ys zs)) ≡ false
        → (is_name_before xs ys ≡ false → is_name_before ys zs ≡ false → is_name_before xs zs ≡ false) → (nat_lt x z || ((x == z) && is_name_before xs zs)) ≡ false
    at true c d g p q r s k l rest = cc
    at false c true g p q r s k l rest = cc
    at false true false true p q r s k l rest =
        let less : nat_lt x z ≡ false = grind (arith, nat_tests, q, s) in
        let equal : (x == z) ≡ true = grind (arith, nat_tests, q, s) in
        rw (less, equal) (rest k l)
    at false true false false p q r s k l rest =
        let less : nat_lt x z ≡ false = grind (arith, nat_tests, q, r, s) in
        let other : (x == z) ≡ false = grind (arith, nat_tests, q, r, s) in
        rw (less, other) refl
    at false false false g p q r s k l rest =
        let less : nat_lt x z ≡ false = grind (arith, nat_tests, p, q, r) in
        let other : (x == z) ≡ false = grind (arith, nat_tests, p, q, r) in
        rw (less, other) refl

pub work-order : IsStrictWeakOrder is_task_before
unfolding is_name_before
work-order = record { one_way = λ t u e. one-way (key t) (key u) (key-before t u ∙ e); chain = λ t u v e f. chain (key t) (key u) (key v) (key-before t u ∙ e) (key-before u v ∙ f) }

work-is : (t : Task) (us : List Task) → inserted is_task_before work-order t us ≡ with_work t us
unfolding with_work
work-is t [] = refl
work-is t (u ∷ us) = ap (λ l. cond (is_task_before u t) (u ∷ l) (t ∷ u ∷ us)) (work-is t us)

pub in_work_order-is : (ts : List Task) → insertion is_task_before work-order ts ≡ in_work_order ts
unfolding in_work_order
in_work_order-is [] = refl
in_work_order-is (t ∷ ts) = work-is t (insertion is_task_before work-order ts) ∙ ap (with_work t) (in_work_order-is ts)

-- ---- names are compared byte by byte
pub name-before : (xs ys : List ℕ) → is_lt (slice_cmp nat_cmp xs ys) ≡ is_name_before xs ys
unfolding is_name_before
name-before [] [] = refl
name-before [] (y ∷ ys) = refl
name-before (x ∷ xs) [] = refl
name-before (x ∷ xs) (y ∷ ys) = at (nat_lt x y) (x == y) (name-before xs ys)
  where
    at : (b d : Bool) → is_lt (slice_cmp nat_cmp xs ys) ≡ is_name_before xs ys → is_lt (ordering_then (cond b Less (cond d Equal Greater)) (slice_cmp nat_cmp xs ys)) ≡ (b || (d && is_name_before xs ys))
    at true d rest = refl
    at false true rest = rest
    at false false rest = refl

pub same-day : (t u : Task) (o : Ordering) → nat_cmp t.by u.by ≡ Equal → o ≡ slice_cmp nat_cmp t.account u.account → is_lt o ≡ is_task_before t u
same-day t u o e f = at (nat_lt t.by u.by) (t.by == u.by) e
  where
    at : (b d : Bool) → cond b Less (cond d Equal Greater) ≡ Equal → is_lt o ≡ (b || (d && is_name_before t.account u.account))
    at true d r = cc
    at false true r = ap is_lt f ∙ name-before t.account u.account
    at false false r = cc
