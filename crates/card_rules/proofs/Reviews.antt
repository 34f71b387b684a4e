-- A review comes due six months after an increase and after each review.
use Rattle.std.proofs.Common.{◌≡◌, ℕ, zero, suc, ◌+◌, ◌≤◌, ◌<◌, ◌⊎◌, inl, inr, min, max, Bool, true, false, cond, List, [], ◌∷◌, ◌++◌, leb, refl, sym, ap, ◌∙◌, subst, arith, Option, Some, None}
use Rattle.std.proofs.lemmas.Bool.{cases_lt}
use Rattle.std.proofs.lemmas.Bool.Decides.{nat_tests}
use Rattle.std.proofs.lemmas.List.Elements.{Contains-append_left, Contains-append_right}
use Rattle.std.specs.List.{Contains, cons_option, filter, filter_map, fold, reduce}
use Rattle.std.specs.Option.{option_map, option_to_list}
use Rattle.card_events.specs.History.{CorrectedPost}
use Rattle.card_events.specs.Later.{six_months_after}
use Rattle.card_events.specs.declared.anchor.Anchor.{Anchor}
use Rattle.card_events.specs.declared.post.Post.{Post}
use Rattle.card_events.specs.declared.post.Post.TheVariants as post
use Rattle.card_model.specs.Deadlines.{ack_due, credit_due, increase_of, increases, lower_due, open_tasks, refund_due, resolve_due, review_by, review_of, reviewed, task_of, task_without_post, tasks_of}
use Rattle.card_model.specs.declared.task.TaskKind.TheVariants as task
use Rattle.card_rules.proofs.Months.{six-months}
use Rattle.card_rules.proofs.RefundTasks.{in-order}
use Rattle.card_rules.specs.Reviews.{IsNoticeFrom, IsPenaltyFrom, IsReviewOf, ReviewsComeDue, WasRaised, WasReviewed}

-- ---- what is in a list of days
in-option : (o : Option ℕ) (xs : List ℕ) (x : ℕ) → Contains xs x → Contains (cons_option o xs) x
in-option None xs x h = h
in-option (Some y) xs x (k, l, e) = (suc k, omega (arith, l), e)

at-front : (o : Option ℕ) (xs : List ℕ) (x : ℕ) → o ≡ Some x → Contains (cons_option o xs) x
at-front None xs x e = absurd (cc)
at-front (Some y) xs x e = let same : y ≡ x = cc in (zero, omega arith, same)

in-days : (f : CorrectedPost → Option ℕ) (ps : List CorrectedPost) (p : CorrectedPost) (day : ℕ) → Contains ps p → f p ≡ Some day → Contains (filter_map f ps) day
in-days f [] p day (k, l, e) i = absurd (omega arith)
in-days f (q ∷ qs) p day (zero, l, e) i = at-front (f q) (filter_map f qs) day (ap f e ∙ i)
in-days f (q ∷ qs) p day (suc k, l, e) i = in-option (f q) (filter_map f qs) day (in-days f qs p day (k, omega arith, e) i)

-- a day in such a list is that of some post
record IsOf (f : CorrectedPost → Option ℕ) (ps : List CorrectedPost) (day : ℕ) : Type 0 where
  one : CorrectedPost
  there : Contains ps one
  day_is : f one ≡ Some day

of-some : (f : CorrectedPost → Option ℕ) (ps : List CorrectedPost) (day : ℕ) → Contains (filter_map f ps) day → IsOf f ps day
of-some f [] day (k, l, e) = absurd (omega arith)
of-some f (q ∷ qs) day c = by (f q) refl c (λ d. of-some f qs day d)
  where
    later : IsOf f qs day → IsOf f (q ∷ qs) day
    later h = let t = h.there in record { one = h.one; there = (suc t.0, omega (arith, t.1), t.2); day_is = h.day_is }

    by : (o : Option ℕ) → f q ≡ o → Contains (cons_option o (filter_map f qs)) day → (Contains (filter_map f qs) day → IsOf f qs day) → IsOf f (q ∷ qs) day
    by None i c r = later (r c)
    by (Some x) i (zero, l, e) r = record { one = q; there = (zero, omega arith, refl); day_is = i ∙ ap (λ (y : ℕ). Some y) e }
    by (Some x) i (suc k, l, e) r = later (r (k, omega arith, e))

low-is : (n m : ℕ) → leb n m ≡ true → n ≤ m
low-is n m e = grind (arith, nat_tests)

is-low : (n m : ℕ) → n ≤ m → leb n m ≡ true
is-low n m l = grind (arith, nat_tests)

in-filtered : (today : ℕ) (xs : List ℕ) (x : ℕ) → Contains xs x → x ≤ today → Contains (filter (λ d. leb d today) xs) x
in-filtered today [] x (k, l, e) h = absurd (omega arith)
in-filtered today (y ∷ ys) x (zero, l, e) h = let test : leb y today ≡ true = is-low y today (omega (arith, e, h)) in rw test (zero, omega arith, e)
in-filtered today (y ∷ ys) x (suc k, l, e) h = by (leb y today) (in-filtered today ys x (k, omega arith, e) h)
  where
    by : (t : Bool) → Contains (filter (λ d. leb d today) ys) x → Contains (cond t (y ∷ filter (λ d. leb d today) ys) (filter (λ d. leb d today) ys)) x
    by true c = (suc c.0, omega (arith, c.1), c.2)
    by false c = c

record IsAmong (today : ℕ) (xs : List ℕ) (x : ℕ) : Type 0 where
  there : Contains xs x
  come : x ≤ today

of-filtered : (today : ℕ) (xs : List ℕ) (x : ℕ) → Contains (filter (λ d. leb d today) xs) x → IsAmong today xs x
of-filtered today [] x (k, l, e) = absurd (omega arith)
of-filtered today (y ∷ ys) x c = by (leb y today) refl c (λ d. of-filtered today ys x d)
  where
    later : IsAmong today ys x → IsAmong today (y ∷ ys) x
    later h = let t = h.there in record { there = (suc t.0, omega (arith, t.1), t.2); come = h.come }

    by : (t : Bool) → leb y today ≡ t → Contains (cond t (y ∷ filter (λ d. leb d today) ys) (filter (λ d. leb d today) ys)) x → (Contains (filter (λ d. leb d today) ys) x → IsAmong today ys x) → IsAmong today (y ∷ ys) x
    by true e (zero, l, i) r = record { there = (zero, omega arith, i); come = let low = low-is y today e in omega (arith, low, i) }
    by true e (suc k, l, i) r = later (r (k, omega arith, i))
    by false e c r = later (r c)

-- ---- the least and the greatest
record IsLeast (xs : List ℕ) (x : ℕ) : Type 0 where
  first : ℕ
  is : reduce min xs ≡ Some first
  there : Contains xs first
  low : first ≤ x

least-of : (y : ℕ) (ys : List ℕ) → (fold min y ys ≤ y) × ((fold min y ys ≡ y) ⊎ Contains ys (fold min y ys))
least-of y [] = (omega arith, inl refl)
least-of y (z ∷ zs) = by (least-of (min y z) zs) (cases_lt z y)
  where
    by : (fold min (min y z) zs ≤ min y z) × ((fold min (min y z) zs ≡ min y z) ⊎ Contains zs (fold min (min y z) zs)) → (z < y) ⊎ (y ≤ z)
        → (fold min (min y z) zs ≤ y) × ((fold min (min y z) zs ≡ y) ⊎ Contains (z ∷ zs) (fold min (min y z) zs))
    by (l, inr c) o = (omega (arith, l), inr (suc c.0, omega (arith, c.1), c.2))
    by (l, inl e) (inl less) = (omega (arith, l), inr (zero, omega arith, omega (arith, e, less)))
    by (l, inl e) (inr more) = (omega (arith, l), inl (omega (arith, e, more)))

below-each : (y : ℕ) (ys : List ℕ) (x : ℕ) → Contains ys x → fold min y ys ≤ x
below-each y [] x (k, l, e) = absurd (omega arith)
below-each y (z ∷ zs) x (zero, l, e) = let low = (least-of (min y z) zs).0 in omega (arith, low, e)
below-each y (z ∷ zs) x (suc k, l, e) = below-each (min y z) zs x (k, omega arith, e)

least : (xs : List ℕ) (x : ℕ) → Contains xs x → IsLeast xs x
least [] x (k, l, e) = absurd (omega arith)
least (y ∷ ys) x c = record { first = fold min y ys; is = refl; there = among (least-of y ys).1; low = below c }
  where
    among : (fold min y ys ≡ y) ⊎ Contains ys (fold min y ys) → Contains (y ∷ ys) (fold min y ys)
    among (inl e) = (zero, omega arith, sym e)
    among (inr c) = (suc c.0, omega (arith, c.1), c.2)

    below : Contains (y ∷ ys) x → fold min y ys ≤ x
    below (zero, l, e) = let low = (least-of y ys).0 in omega (arith, low, e)
    below (suc k, l, e) = below-each y ys x (k, omega arith, e)

greatest-of : (y : ℕ) (ys : List ℕ) → (y ≤ fold max y ys) × ((fold max y ys ≡ y) ⊎ Contains ys (fold max y ys))
greatest-of y [] = (omega arith, inl refl)
greatest-of y (z ∷ zs) = by (greatest-of (max y z) zs) (cases_lt y z)
  where
    by : (max y z ≤ fold max (max y z) zs) × ((fold max (max y z) zs ≡ max y z) ⊎ Contains zs (fold max (max y z) zs)) → (y < z) ⊎ (z ≤ y)
        → (y ≤ fold max (max y z) zs) × ((fold max (max y z) zs ≡ y) ⊎ Contains (z ∷ zs) (fold max (max y z) zs))
    by (l, inr c) o = (omega (arith, l), inr (suc c.0, omega (arith, c.1), c.2))
    by (l, inl e) (inl less) = (omega (arith, l), inr (zero, omega arith, omega (arith, e, less)))
    by (l, inl e) (inr more) = (omega (arith, l), inl (omega (arith, e, more)))

above-each : (y : ℕ) (ys : List ℕ) (x : ℕ) → Contains ys x → x ≤ fold max y ys
above-each y [] x (k, l, e) = absurd (omega arith)
above-each y (z ∷ zs) x (zero, l, e) = let high = (greatest-of (max y z) zs).0 in omega (arith, high, e)
above-each y (z ∷ zs) x (suc k, l, e) = above-each (max y z) zs x (k, omega arith, e)

-- ---- posts
raises-on : (p : CorrectedPost) (day : ℕ) → IsNoticeFrom p day ⊎ IsPenaltyFrom p day → increase_of p.accepted p.post ≡ Some day
raises-on p day (inl n) = ap (increase_of p.accepted) n.is
raises-on p day (inr n) = ap (increase_of p.accepted) n.is ∙ ap (λ (d : ℕ). Some d) (sym n.begins)

abbrev RaisesFrom : CorrectedPost → ℕ → Post → Type 0
RaisesFrom p day q = p.post ≡ q → IsNoticeFrom p day ⊎ IsPenaltyFrom p day

raised-by : (p : CorrectedPost) (day : ℕ) (q : Post) → increase_of p.accepted q ≡ Some day → RaisesFrom p day q
raised-by p day (post.Notice d c r f) e i = let same : f ≡ day = cc in inl (record { given = d; category = c; rate = r; is = i ∙ ap (post.Notice d c r) same })
raised-by p day post.Penalty e i = let same : p.accepted + 45 ≡ day = cc in inr (record { is = i; begins = sym same })
raised-by p day (post.Open d t) e i = absurd (cc)
raised-by p day (post.OpenVariable d t) e i = absurd (cc)
raised-by p day (post.Charge d a z) e i = absurd (cc)
raised-by p day (post.Credit d a z) e i = absurd (cc)
raised-by p day (post.Payment d m y z) e i = absurd (cc)
raised-by p day (post.Return d t) e i = absurd (cc)
raised-by p day (post.Plan d k r f a) e i = absurd (cc)
raised-by p day (post.Lower d y r) e i = absurd (cc)
raised-by p day (post.Review d f) e i = absurd (cc)
raised-by p day (post.Dispute d t z) e i = absurd (cc)
raised-by p day (post.Ack d t) e i = absurd (cc)
raised-by p day (post.Resolve d t z) e i = absurd (cc)
raised-by p day (post.AskRefund d) e i = absurd (cc)
raised-by p day (post.Refund z) e i = absurd (cc)
raised-by p day (post.Amend t d z) e i = absurd (cc)
raised-by p day (post.Bill z) e i = absurd (cc)

review-on : (p : CorrectedPost) (day : ℕ) → IsReviewOf p day → review_of p.post ≡ Some day
review-on p day r = ap review_of r.is

reviewed-by : (p : CorrectedPost) (day : ℕ) (q : Post) → review_of q ≡ Some day → p.post ≡ q → IsReviewOf p day
reviewed-by p day (post.Review d f) e i = let same : d ≡ day = cc in record { finding = f; is = i ∙ ap (λ x. post.Review x f) same }
reviewed-by p day (post.Open d t) e i = absurd (cc)
reviewed-by p day (post.OpenVariable d t) e i = absurd (cc)
reviewed-by p day (post.Charge d a z) e i = absurd (cc)
reviewed-by p day (post.Credit d a z) e i = absurd (cc)
reviewed-by p day (post.Payment d m y z) e i = absurd (cc)
reviewed-by p day (post.Return d t) e i = absurd (cc)
reviewed-by p day (post.Plan d k r f a) e i = absurd (cc)
reviewed-by p day (post.Notice d c r f) e i = absurd (cc)
reviewed-by p day (post.Lower d y r) e i = absurd (cc)
reviewed-by p day post.Penalty e i = absurd (cc)
reviewed-by p day (post.Dispute d t z) e i = absurd (cc)
reviewed-by p day (post.Ack d t) e i = absurd (cc)
reviewed-by p day (post.Resolve d t z) e i = absurd (cc)
reviewed-by p day (post.AskRefund d) e i = absurd (cc)
reviewed-by p day (post.Refund z) e i = absurd (cc)
reviewed-by p day (post.Amend t d z) e i = absurd (cc)
reviewed-by p day (post.Bill z) e i = absurd (cc)

-- ---- the task
waiting : (account : List ℕ) (a : Anchor) (holidays : List ℕ) (posts : List CorrectedPost) (credit : ℕ) (since : Option ℕ) (today by : ℕ) → review_by posts today ≡ Some by
    → Contains (open_tasks account a holidays posts credit since today) (task_of account task.Review 0 by)
unfolding open_tasks
waiting account a holidays posts credit since today by e =
    let x = task_of account task.Review 0 by in
    let first = tasks_of account task.Ack (ack_due posts) posts in
    let second = tasks_of account task.Resolve (resolve_due a posts) posts in
    let third = tasks_of account task.Refund (refund_due holidays credit posts) posts in
    let fourth = task_without_post account task.Credit (credit_due credit since) in
    let fifth = task_without_post account task.Review (review_by posts today) in
    let sixth = tasks_of account task.Lower (lower_due posts) posts in
    let made : Contains fifth x = subst (λ o. Contains (option_to_list (option_map (task_of account task.Review 0) o)) (task_of account task.Review 0 by)) (sym e) (zero, omega arith, refl) in
    in-order x (first ++ second ++ third ++ fourth ++ fifth ++ sixth)
    (Contains-append_left (first ++ second ++ third ++ fourth ++ fifth) sixth x (Contains-append_right (first ++ second ++ third ++ fourth) fifth x made))

-- the first increase that has taken effect
record IsFirst (posts : List CorrectedPost) (today day : ℕ) : Type 0 where
  first : ℕ
  raised : WasRaised posts today first
  low : first ≤ day
  due : review_by posts today ≡ Some (six_months_after (reviewed posts first))

first-of : (posts : List CorrectedPost) (today day : ℕ) → WasRaised posts today day → IsFirst posts today day
unfolding increases review_by
first-of posts today day w =
    let all = filter_map (λ (p : CorrectedPost). increase_of p.accepted p.post) posts in
    let there = in-days (λ (p : CorrectedPost). increase_of p.accepted p.post) posts w.by day w.accepted (raises-on w.by day w.raises) in
    let l = least (filter (λ d. leb d today) all) day (in-filtered today all day there w.come) in
    let among = of-filtered today all l.first l.there in
    let one = of-some (λ (p : CorrectedPost). increase_of p.accepted p.post) posts l.first among.there in
    record {
      first = l.first;
      raised = record { by = one.one; accepted = one.there; raises = raised-by one.one l.first one.one.post one.day_is refl; come = among.come };
      low = l.low;
      due = ap (option_map (λ first. six_months_after (reviewed posts first))) l.is;
    }

pub reviews_come_due : ReviewsComeDue
reviews_come_due account a holidays posts credit since today day w = record {
  from = from;
  waits = subst (λ by. Contains (open_tasks account a holidays posts credit since today) (task_of account task.Review 0 by)) (sym (six-months from)) (waiting account a holidays posts credit since today (six_months_after from) it.due);
  begun = begun (greatest-of it.first days).1;
  last = λ p on c r. above-each it.first days on (in-days (λ (q : CorrectedPost). review_of q.post) posts p on c (review-on p on r));
}
  where
    it : IsFirst posts today day
    it = first-of posts today day w

    days : List ℕ
    days = filter_map (λ (p : CorrectedPost). review_of p.post) posts

    from : ℕ
    from = reviewed posts it.first

    begun : (from ≡ it.first) ⊎ Contains days from → (WasRaised posts today from × (from ≤ day)) ⊎ WasReviewed posts from
    begun (inl e) = let low = it.low in inl (subst (WasRaised posts today) (sym e) it.raised, omega (arith, e, low))
    begun (inr c) =
        let one = of-some (λ (p : CorrectedPost). review_of p.post) posts from c in
        inr (record { by = one.one; accepted = one.there; reviews = reviewed-by one.one from one.one.post one.day_is refl })
