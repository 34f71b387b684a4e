-- A refund that was asked for is a task by the seventh business day.
use Rattle.std.proofs.Common.{◌≡◌, ℕ, zero, suc, ◌+◌, ◌-◌, ◌*◌, ◌≤◌, ◌<◌, Bool, true, false, cond, ◌&&◌, ◌||◌, eqb, ltb, List, [], ◌∷◌, ◌++◌, max, refl, ap, ◌∙◌, subst, arith, Option, Some, None}
use Rattle.std.proofs.lemmas.Bool.{ne_eqb}
use Rattle.std.proofs.lemmas.Bool.Decides.{nat_tests}
use Rattle.std.proofs.lemmas.List.Elements.{Contains-append_left, Contains-append_right}
use Rattle.std.proofs.lemmas.List.Sums.{sum_by-cons}
use Rattle.std.specs.List.{Contains, cons_option, filter_map, range_with_len, sum_by}
use Rattle.std.specs.Option.{option_map}
use Rattle.card_events.proofs.Business.{next_business-is, next_business-later, next_business-near}
use Rattle.card_events.proofs.DueLaws.{quiet}
use Rattle.card_events.specs.Business.{is_business, next_business}
use Rattle.card_events.specs.History.{CorrectedPost}
use Rattle.card_events.specs.Kept.{AreHolidays}
use Rattle.card_events.specs.Range.{last_request_day}
use Rattle.card_events.specs.declared.anchor.Anchor.{Anchor}
use Rattle.card_events.specs.declared.post.Post.{Post}
use Rattle.card_events.specs.declared.post.Post.TheVariants as post
use Rattle.card_model.specs.Deadlines.{ack_due, business_day_after, by_day, credit_due, has_later, is_refund, lower_due, open_tasks, refund_by, refund_due, resolve_due, review_by, task_of, task_without_post, tasks_of, with_task}
use Rattle.card_model.specs.declared.task.Task.{Task}
use Rattle.card_model.specs.declared.task.TaskKind.TheVariants as task
use Rattle.card_rules.specs.RefundTasks.{IsSeventhBusinessDay, NoneIsRefunded, RefundsAreTasks, business_days}

-- ---- counting days
split : (f : ℕ → ℕ) (a p q : ℕ) → sum_by f (range_with_len a (p + q)) ≡ sum_by f (range_with_len a p) + sum_by f (range_with_len (a + p) q)
split f a zero q =
    let all : 0 + q ≡ q = omega arith in
    let still : a + 0 ≡ a = omega arith in
    let one = ap (λ n. sum_by f (range_with_len a n)) all in
    let two = ap (λ x. sum_by f (range_with_len x q)) still in
    let none : sum_by f (range_with_len a 0) ≡ 0 = refl in
    omega (arith, one, two, none)
split f a (suc p) q =
    let more : suc p + q ≡ suc (p + q) = omega arith in
    let long = ap (λ n. sum_by f (range_with_len a n)) more in
    let one = sum_by-cons f a (range_with_len (a + 1) (p + q)) in
    let two = sum_by-cons f a (range_with_len (a + 1) p) in
    let rest = split f (a + 1) p q in
    let same : a + 1 + p ≡ a + suc p = omega arith in
    let moved = ap (λ x. sum_by f (range_with_len x q)) same in
    omega (arith, long, one, two, rest, moved)

none-counted : (f : ℕ → ℕ) (a p : ℕ) → ((x : ℕ) → a ≤ x → x < a + p → f x ≡ 0) → sum_by f (range_with_len a p) ≡ 0
none-counted f a zero h = refl
none-counted f a (suc p) h =
    let one = sum_by-cons f a (range_with_len (a + 1) p) in
    let here = h a (omega arith) (omega arith) in
    let rest = none-counted f (a + 1) p (λ x l m. h x (omega (arith, l)) (omega (arith, m))) in
    omega (arith, one, here, rest)

one-of : List ℕ → ℕ → ℕ
one-of holidays d = cond (is_business holidays d) 1 0

-- up to the next business day there is one
step-counted : (holidays : List ℕ) (day : ℕ) → AreHolidays 0 holidays → day ≤ last_request_day + 300 → business_days holidays (day + 1) (next_business holidays day - day) ≡ 1
unfolding one-of
step-counted holidays day h low =
    let m = next_business holidays day in
    let later = next_business-later holidays day in
    let works = next_business-is holidays day h (omega (arith, low)) in
    let parts : next_business holidays day - day ≡ (next_business holidays day - day - 1) + 1 = omega (arith, later) in
    let f : ℕ → ℕ = λ d. cond (is_business holidays d) 1 0 in
    let whole = ap (λ n. sum_by (λ d. cond (is_business holidays d) 1 0) (range_with_len (day + 1) n)) parts in
    let two = split (λ d. cond (is_business holidays d) 1 0) (day + 1) (next_business holidays day - day - 1) 1 in
    let none = none-counted (λ d. cond (is_business holidays d) 1 0) (day + 1) (next_business holidays day - day - 1)
    (λ x l b. ap (λ t. cond t 1 0) (quiet holidays day x (omega (arith, l)) (omega (arith, b, later)))) in
    let at : day + 1 + (next_business holidays day - day - 1) ≡ next_business holidays day = omega (arith, later) in
    let last : sum_by (λ d. cond (is_business holidays d) 1 0) (range_with_len (day + 1 + (next_business holidays day - day - 1)) 1) ≡ 1 =
    ap (λ x. sum_by (λ d. cond (is_business holidays d) 1 0) (range_with_len x 1)) at
    ∙ (sum_by-cons (λ d. cond (is_business holidays d) 1 0) (next_business holidays day) [] ∙ ap (λ t. cond t 1 0 + 0) works) in
    omega (arith, whole, two, none, last)

record IsNth (holidays : List ℕ) (n day by : ℕ) : Type 0 where
  later : day ≤ by
  after : 0 < n → day < by
  business : 0 < n → is_business holidays by ≡ true
  counted : business_days holidays (day + 1) (by - day) ≡ n

is-nth : (holidays : List ℕ) (n day : ℕ) → AreHolidays 0 holidays → n ≤ 20 → day + 3 * n ≤ last_request_day + 100 → IsNth holidays n day (business_day_after holidays n day)
unfolding business_day_after
is-nth holidays zero day h few low =
    let none : day - day ≡ 0 = omega arith in
    record { later = omega arith; after = λ l. absurd (omega (arith, l)); business = λ l. absurd (omega (arith, l)); counted = ap (λ n. business_days holidays (day + 1) n) none }
is-nth holidays (suc n) day h few low =
    let m = next_business holidays day in
    let by = business_day_after holidays n m in
    let later = next_business-later holidays day in
    let near = next_business-near holidays day h in
    let rest = is-nth holidays n (next_business holidays day) h (omega (arith, few)) (bounded day (next_business holidays day) n few low near) in
    let past = rest.later in
    let one = step-counted holidays day h (omega (arith, low)) in
    let parts : by - day ≡ (next_business holidays day - day) + (by - next_business holidays day) = omega (arith, later, past) in
    let whole = ap (λ k. business_days holidays (day + 1) k) parts in
    let two = split (λ d. cond (is_business holidays d) 1 0) (day + 1) (next_business holidays day - day) (by - next_business holidays day) in
    let at : day + 1 + (next_business holidays day - day) ≡ next_business holidays day + 1 = omega (arith, later) in
    let moved = ap (λ x. business_days holidays x (by - next_business holidays day)) at in
    let others = rest.counted in
    record {
      later = omega (arith, later, past);
      after = λ l. omega (arith, later, past);
      business = λ l. ends n (next_business-is holidays day h (omega (arith, low))) rest.business;
      counted = omega (arith, whole, one, two, moved, others);
    }
  where
    ends : (k : ℕ) → is_business holidays (next_business holidays day) ≡ true → (0 < k → is_business holidays (business_day_after holidays k (next_business holidays day)) ≡ true)
        → is_business holidays (business_day_after holidays k (next_business holidays day)) ≡ true
    ends zero works rest = works
    ends (suc k) works rest = rest (omega arith)

    bounded : (day m n : ℕ) → suc n ≤ 20 → day + 3 * suc n ≤ last_request_day + 100 → m ≤ max (last_request_day + 1) (day + 3) → m + 3 * n ≤ last_request_day + 100
    bounded day m n few low near = omega (arith, few, low, near)

seventh : (holidays : List ℕ) (day : ℕ) → AreHolidays 0 holidays → day ≤ last_request_day → IsSeventhBusinessDay holidays day (refund_by holidays day)
seventh holidays day h low =
    let r = is-nth holidays 7 day h (omega arith) (omega (arith, low)) in
    record { later = r.after (omega arith); business = r.business (omega arith); seven = r.counted }

-- ---- the task
in-option : (o : Option Task) (xs : List Task) (x : Task) → Contains xs x → Contains (cons_option o xs) x
in-option None xs x h = h
in-option (Some y) xs x (k, l, e) = (suc k, omega (arith, l), e)

at-front : (o : Option Task) (xs : List Task) (x : Task) → o ≡ Some x → Contains (cons_option o xs) x
at-front None xs x e = absurd (cc)
at-front (Some y) xs x e = let same : y ≡ x = cc in (zero, omega arith, same)

pub in-mapped : (f : CorrectedPost → Option Task) (xs : List CorrectedPost) (x : CorrectedPost) (y : Task) → Contains xs x → f x ≡ Some y → Contains (filter_map f xs) y
in-mapped f [] x y (k, l, e) i = absurd (omega arith)
in-mapped f (z ∷ zs) x y (zero, l, e) i = at-front (f z) (filter_map f zs) y (ap f e ∙ i)
in-mapped f (z ∷ zs) x y (suc k, l, e) i = in-option (f z) (filter_map f zs) y (in-mapped f zs x y (k, omega arith, e) i)

with-itself : (t : Task) (us : List Task) → Contains (with_task t us) t
unfolding with_task
with-itself t [] = (zero, omega arith, refl)
with-itself t (u ∷ us) = by (ltb u.by t.by) (with-itself t us)
  where
    by : (b : Bool) → Contains (with_task t us) t → Contains (cond b (u ∷ with_task t us) (t ∷ u ∷ us)) t
    by true (k, l, e) = (suc k, omega (arith, l), e)
    by false c = (zero, omega arith, refl)

with-others : (t x : Task) (us : List Task) → Contains us x → Contains (with_task t us) x
unfolding with_task
with-others t x [] (k, l, e) = absurd (omega arith)
with-others t x (u ∷ us) c = by (ltb u.by t.by) c (λ d. with-others t x us d)
  where
    by : (b : Bool) → Contains (u ∷ us) x → (Contains us x → Contains (with_task t us) x) → Contains (cond b (u ∷ with_task t us) (t ∷ u ∷ us)) x
    by true (zero, l, e) r = (zero, omega arith, e)
    by true (suc k, l, e) r = let d = r (k, omega arith, e) in (suc d.0, omega (arith, d.1), d.2)
    by false (k, l, e) r = (suc k, omega (arith, l), e)

pub in-order : (x : Task) (ts : List Task) → Contains ts x → Contains (by_day ts) x
unfolding by_day
in-order x [] (k, l, e) = absurd (omega arith)
in-order x (t ∷ ts) (zero, l, e) = subst (λ (y : Task). Contains (with_task t (by_day ts)) y) e (with-itself t (by_day ts))
in-order x (t ∷ ts) (suc k, l, e) = with-others t x (by_day ts) (in-order x ts (k, omega arith, e))

-- no refund follows
is-no-refund : (p : Post) → ((cents : ℕ) → p ≡ post.Refund cents → ⊥) → is_refund p ≡ false
is-no-refund (post.Refund z) h = absurd (h z refl)
is-no-refund (post.Open d t) h = refl
is-no-refund (post.OpenVariable d t) h = refl
is-no-refund (post.Charge d a z) h = refl
is-no-refund (post.Credit d a z) h = refl
is-no-refund (post.Payment d m y z) h = refl
is-no-refund (post.Return d t) h = refl
is-no-refund (post.Plan d k r f a) h = refl
is-no-refund (post.Notice d c r f) h = refl
is-no-refund (post.Lower d y r) h = refl
is-no-refund post.Penalty h = refl
is-no-refund (post.Review d f) h = refl
is-no-refund (post.Dispute d t z) h = refl
is-no-refund (post.Ack d t) h = refl
is-no-refund (post.Resolve d t z) h = refl
is-no-refund (post.AskRefund d) h = refl
is-no-refund (post.Amend t d z) h = refl
is-no-refund (post.Bill z) h = refl

none-later : (posts : List CorrectedPost) (n : ℕ) → NoneIsRefunded posts n → has_later is_refund n posts ≡ false
none-later [] n h = refl
none-later (q ∷ qs) n h = by (ltb n q.number) refl (none-later qs n (λ p cents c. h p cents (suc c.0, omega (arith, c.1), c.2)))
  where
    by : (t : Bool) → ltb n q.number ≡ t → has_later is_refund n qs ≡ false → ((t && is_refund q.post) || has_later is_refund n qs) ≡ false
    by false e rest = rest
    by true e rest =
        let later : n < q.number = grind (arith, nat_tests) in
        let out = is-no-refund q.post (λ cents. h q cents (zero, omega arith, refl) later) in
        rw out rest

refund-task : (account : List ℕ) (a : Anchor) (holidays : List ℕ) (posts : List CorrectedPost) (credit : ℕ) (since : Option ℕ) (today : ℕ) (p : CorrectedPost) (day : ℕ)
    → Contains posts p → p.post ≡ post.AskRefund day → 0 < credit → NoneIsRefunded posts p.number
    → Contains (open_tasks account a holidays posts credit since today) (task_of account task.Refund p.number (refund_by holidays day))
unfolding open_tasks
refund-task account a holidays posts credit since today p day c e some unrefunded =
    let none = none-later posts p.number unrefunded in
    let x = task_of account task.Refund p.number (refund_by holidays day) in
    let first = tasks_of account task.Ack (ack_due posts) posts in
    let second = tasks_of account task.Resolve (resolve_due a posts) posts in
    let third = tasks_of account task.Refund (refund_due holidays credit posts) posts in
    let fourth = task_without_post account task.Credit (credit_due credit since) in
    let fifth = task_without_post account task.Review (review_by posts today) in
    let sixth = tasks_of account task.Lower (lower_due posts) posts in
    let left : eqb credit 0 ≡ false = ne_eqb credit 0 (λ z. omega (arith, some, z)) in
    let due : refund_due holidays credit posts p.number p.post ≡ Some (refund_by holidays day) = ap (refund_due holidays credit posts p.number) e ∙ rw (left, none) refl in
    let made = in-mapped (λ q. option_map (task_of account task.Refund q.number) (refund_due holidays credit posts q.number q.post)) posts p x c (ap (option_map (task_of account task.Refund p.number)) due) in
    in-order x (first ++ second ++ third ++ fourth ++ fifth ++ sixth)
    (Contains-append_left (first ++ second ++ third ++ fourth ++ fifth) sixth x
    (Contains-append_left (first ++ second ++ third ++ fourth) fifth x
    (Contains-append_left (first ++ second ++ third) fourth x (Contains-append_right (first ++ second) third x made))))

pub refunds_are_tasks : RefundsAreTasks
refunds_are_tasks = record { seventh = seventh; task = refund-task }
