-- The first increase and the last Review.
use Rattle.std.proofs.Common.{◌≡◌, ℕ, zero, suc, ◌+◌, ◌≤◌, ◌<◌, take, max, min, nat_le, length, Bool, true, false, cond, List, [], ◌∷◌, ◌++◌, refl, sym, ap, ◌∙◌, subst, Option, Some, None, arith}
use Rattle.std.specs.Prelude.{slice_get}
use Rattle.std.specs.List.{cons_option, filter, filter_map, fold, reduce}
use Rattle.std.proofs.lemmas.Bool.Decides.{nat_tests}
use Rattle.std.proofs.lemmas.List.Elements.{All-head, All-tail}
use Rattle.std.specs.Option.{option_map}
use Rattle.card_events.specs.Later.{six_months_after}
use Rattle.card_events.specs.Range.{last_request_day}
use Rattle.card_events.specs.declared.anchor.Anchor.{Anchor}
use Rattle.card_disputes.specs.Increases.{increase_at, increase_by, increases_by, latest, least_of, review_at, until}
use Rattle.card_disputes.proofs.IncreaseLemmas.{days-corrected}
use Rattle.card_disputes.proofs.Scans.{at_place, place-there}
use Rattle.card_events.specs.Dated.{is_dated_post}
use Rattle.card_events.specs.History.{at_number, corrected, corrected_from, corrected_post, next_segment}
use Rattle.card_events.specs.declared.kept.Kept.{Kept}
use Rattle.card_events.specs.declared.post.Post.{Post}
use Rattle.card_events.specs.declared.post.Post.TheVariants as post
use Rattle.card_model.specs.Deadlines.{increase_of, review_by, review_of, reviewed}
use Rattle.card_rates.specs.Segments.{ArePostsDated}

-- ---- the posts up to a place
map-step : (h : Kept → Option ℕ) (i : ℕ) (ks : List Kept) (k : Kept) → slice_get ks i ≡ Some k → filter_map h (take (suc i) ks) ≡ filter_map h (take i ks) ++ cons_option (h k) []
map-step h i [] k e = cc
map-step h zero (q ∷ ks) k e = let same : q ≡ k = cc in ap (λ x. cons_option (h x) []) same
map-step h (suc i) (q ∷ ks) k e = ap (cons_option (h q)) (map-step h i ks k e) ∙ at (h q)
  where
    at : (o : Option ℕ) → cons_option o (filter_map h (take i ks) ++ cons_option (h k) []) ≡ cons_option o (filter_map h (take i ks)) ++ cons_option (h k) []
    at None = refl
    at (Some x) = refl

-- ---- the first increase
fold-more : (f : ℕ → ℕ → ℕ) (x d : ℕ) (xs : List ℕ) → fold f x (xs ++ d ∷ []) ≡ f (fold f x xs) d
fold-more f x d [] = refl
fold-more f x d (y ∷ xs) = fold-more f (f x y) d xs

least-more : (xs : List ℕ) (o : Option ℕ) → reduce min (xs ++ cons_option o []) ≡ least_of (reduce min xs) o
least-more [] None = refl
least-more [] (Some d) = refl
least-more (x ∷ xs) None = ap (λ l. reduce min (x ∷ l)) (none xs)
  where
    none : (xs : List ℕ) → xs ++ [] ≡ xs
    none [] = refl
    none (y ∷ ys) = ap (λ l. y ∷ l) (none ys)
least-more (x ∷ xs) (Some d) = ap Some (fold-more min x d xs)

pub first-step : (day i : ℕ) (ks : List Kept) → i < length ks → least_of (reduce min (increases_by day (take i ks))) (increase_at day (at_number (i + 1) ks)) ≡ reduce min (increases_by day (take (i + 1) ks))
first-step day i ks l =
    let there = place-there i ks l in
    let one : suc i ≡ i + 1 = omega arith in
    ap (λ o. least_of (reduce min (increases_by day (take i ks))) (increase_at day o)) (at_place i ks ∙ there.1)
    ∙ sym (least-more (increases_by day (take i ks)) (increase_by day there.0))
    ∙ ap (reduce min) (sym (map-step (increase_by day) i ks there.0 there.1))
    ∙ ap (λ m. reduce min (increases_by day (take m ks))) one

-- ---- the last Review
last-more : (day : ℕ) (xs : List ℕ) (o : Option ℕ) → fold max day (xs ++ cons_option o []) ≡ latest o (fold max day xs)
last-more day [] None = refl
last-more day [] (Some d) = refl
last-more day (x ∷ xs) o = last-more (max day x) xs o

pub last-step : (day i : ℕ) (ks : List Kept) → i < length ks → review_at (at_number (i + 1) ks) (fold max day (filter_map (λ k. review_of k.post) (take i ks))) ≡ fold max day (filter_map (λ k. review_of k.post) (take (i + 1) ks))
last-step day i ks l =
    let there = place-there i ks l in
    let one : suc i ≡ i + 1 = omega arith in
    ap (λ o. review_at o (fold max day (filter_map (λ k. review_of k.post) (take i ks)))) (at_place i ks ∙ there.1)
    ∙ sym (last-more day (filter_map (λ k. review_of k.post) (take i ks)) (review_of there.0.post))
    ∙ ap (fold max day) (sym (map-step (λ k. review_of k.post) i ks there.0 there.1))
    ∙ ap (λ m. fold max day (filter_map (λ k. review_of k.post) (take m ks))) one

-- ---- days of requests
review-dated : (p : Post) (day : ℕ) → is_dated_post p ≡ true → day ≤ last_request_day → latest (review_of p) day ≤ last_request_day
unfolding is_dated_post
review-dated (post.Review d f) day e l = let by : d ≤ last_request_day = grind (arith, nat_tests, e) in omega (arith, by, l)
review-dated (post.Amend t d c) day e l = l
review-dated (post.Charge d p c) day e l = l
review-dated (post.Credit d p c) day e l = l
review-dated (post.Payment d m by c) day e l = l
review-dated (post.Bill c) day e l = l
review-dated (post.Plan d v r w f) day e l = l
review-dated (post.Notice d y r w) day e l = l
review-dated (post.Lower d y r) day e l = l
review-dated post.Penalty day e l = l
review-dated (post.Dispute d t c) day e l = l
review-dated (post.Ack d t) day e l = l
review-dated (post.Resolve d t c) day e l = l
review-dated (post.AskRefund d) day e l = l
review-dated (post.Refund c) day e l = l
review-dated (post.Open d t) day e l = l
review-dated (post.OpenVariable d t) day e l = l
review-dated (post.Return d t) day e l = l

pub last-dated : (ks : List Kept) (day : ℕ) → ArePostsDated ks → day ≤ last_request_day → fold max day (filter_map (λ k. review_of k.post) ks) ≤ last_request_day
last-dated [] day h l = l
last-dated (k ∷ ks) day h l =
    subst (λ x. x ≤ last_request_day) (at (review_of k.post))
    (last-dated ks (latest (review_of k.post) day) (All-tail (λ (x : Kept). is_dated_post x.post ≡ true) k ks h) (review-dated k.post day (All-head (λ (x : Kept). is_dated_post x.post ≡ true) k ks h) l))
  where
    at : (o : Option ℕ) → fold max (latest o day) (filter_map (λ x. review_of x.post) ks) ≡ fold max day (cons_option o (filter_map (λ x. review_of x.post) ks))
    at None = refl
    at (Some d) = refl

abbrev AreBy : ℕ → List ℕ → Type 0
AreBy day [] = Unit {0}
AreBy day (d ∷ ds) = (d ≤ day) × AreBy day ds

by-all : (day : ℕ) (ks : List Kept) → AreBy day (increases_by day ks)
by-all day [] = tt
by-all day (k ∷ ks) = at (by-all day ks) (increase_of k.accepted k.post)
  where
    test : AreBy day (increases_by day ks) → (d : ℕ) (b : Bool) → nat_le d day ≡ b → AreBy day (cons_option (cond b (Some d) None) (increases_by day ks))
    test rest d true e = (grind (arith, nat_tests, e), rest)
    test rest d false e = rest

    at : AreBy day (increases_by day ks) → (o : Option ℕ) → AreBy day (cons_option (until day o) (increases_by day ks))
    at rest None = rest
    at rest (Some d) = test rest d (nat_le d day) refl

least-by : (day x : ℕ) (xs : List ℕ) → x ≤ day → fold min x xs ≤ day
least-by day x [] l = l
least-by day x (y ∷ xs) l = least-by day (min x y) xs (omega (arith, l))

pub first-by : (day first : ℕ) (ks : List Kept) → reduce min (increases_by day ks) ≡ Some first → first ≤ day
first-by day first ks e = at (increases_by day ks) (by-all day ks) e
  where
    at : (xs : List ℕ) → AreBy day xs → reduce min xs ≡ Some first → first ≤ day
    at [] h e = cc
    at (x ∷ xs) h e = let same : fold min x xs ≡ first = cc in subst (λ y. y ≤ day) same (least-by day x xs (head x xs h))
      where
        head : (x : ℕ) (xs : List ℕ) → AreBy day (x ∷ xs) → x ≤ day
        head x xs h = h.0

-- ---- in the corrected list
increases-are : (day : ℕ) (ks : List Kept) → increases_by day ks ≡ filter (λ d. nat_le d day) (filter_map (λ k. increase_of k.accepted k.post) ks)
increases-are day [] = refl
increases-are day (k ∷ ks) = at (increases-are day ks) (increase_of k.accepted k.post)
  where
    test : increases_by day ks ≡ filter (λ d. nat_le d day) (filter_map (λ x. increase_of x.accepted x.post) ks) → (d : ℕ) (b : Bool)
        → cons_option (cond b (Some d) None) (increases_by day ks) ≡ cond b (d ∷ filter (λ d. nat_le d day) (filter_map (λ x. increase_of x.accepted x.post) ks)) (filter (λ d. nat_le d day) (filter_map (λ x. increase_of x.accepted x.post) ks))
    test rest d true = ap (λ l. d ∷ l) rest
    test rest d false = rest

    at : increases_by day ks ≡ filter (λ d. nat_le d day) (filter_map (λ x. increase_of x.accepted x.post) ks) → (o : Option ℕ)
        → cons_option (until day o) (increases_by day ks) ≡ filter (λ d. nat_le d day) (cons_option o (filter_map (λ x. increase_of x.accepted x.post) ks))
    at rest None = rest
    at rest (Some d) = test rest d (nat_le d day)

reviews-are : (a : Anchor) (holidays : List ℕ) (history : List Kept) (n segment : ℕ) (ks : List Kept) → filter_map (λ p. review_of p.post) (corrected_from a holidays history n segment ks) ≡ filter_map (λ k. review_of k.post) ks
unfolding corrected_from corrected_post
reviews-are a holidays history n segment [] = refl
reviews-are a holidays history n segment (k ∷ ks) = ap (cons_option (review_of k.post)) (reviews-are a holidays history (suc n) (next_segment segment k.post) ks)

pub review-is : (a : Anchor) (holidays : List ℕ) (history : List Kept) (today : ℕ)
    → option_map (λ first. six_months_after (fold max first (filter_map (λ k. review_of k.post) history))) (reduce min (increases_by today history)) ≡ review_by (corrected a holidays history) today
unfolding review_by
review-is a holidays history today =
    ap (λ l. option_map (λ first. six_months_after (fold max first l)) (reduce min (increases_by today history))) (sym (reviews-are a holidays history 1 5 history))
    ∙ ap (λ l. option_map (λ first. six_months_after (reviewed (corrected a holidays history) first)) (reduce min l)) (increases-are today history ∙ sym (days-corrected a holidays history 1 5 today history))
