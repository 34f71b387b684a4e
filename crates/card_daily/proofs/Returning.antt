-- Which payments are returned, after each post of a day.
use Rattle.std.proofs.Common.{◌≡◌, ℕ, zero, suc, ◌+◌, ◌-◌, ◌<◌, ◌≤◌, Bool, true, false, cond, ◌&&◌, ◌||◌, eqb, leb, List, [], ◌∷◌, length, take, get_or, refl, sym, ap, ◌∙◌, subst, arith, Option, Some, None}
use Rattle.std.specs.Prelude.{slice_get}
use Rattle.std.specs.List.{All, filter, list_any}
use Rattle.std.proofs.lemmas.Bool.{eqb-true, leb-true}
use Rattle.std.proofs.lemmas.Bool.Decides.{nat_tests}
use Rattle.std.proofs.lemmas.List.{take_more}
use Rattle.std.proofs.lemmas.List.Elements.{All-cons, All-filter, All-get_or, All-head, All-nil, All-tail, filter_passes}
use Rattle.std.proofs.lemmas.List.Folds.{list_any-append}
use Rattle.card_bounds.proofs.Totals.{Numbers, numbers-filter, slots-number}
use Rattle.card_events.specs.declared.anchor.Anchor.{Anchor}
use Rattle.card_events.specs.History.{CorrectedPost, anchor_of, at_number, corrected, corrected_from, corrected_post, is_folded, next_segment}
use Rattle.card_events.specs.Limits.{post_limit}
use Rattle.card_events.specs.declared.kept.Kept.{Kept}
use Rattle.card_events.specs.declared.post.Post.{Post}
use Rattle.card_events.specs.declared.post.Post.TheVariants as post
use Rattle.card_fees.proofs.Fold.{payment-folded, return-folded}
use Rattle.card_fees.proofs.Payments.{Stands, all-stand, return-later}
use Rattle.card_fees.specs.Counting.{is_payment_at}
use Rattle.card_model.specs.Cycles.{post_at}
use Rattle.card_model.specs.Effects.{payment_at}
use Rattle.card_model.specs.Payments.{is_payment, is_returned, returns}
use Rattle.card_daily.specs.Given.{Given, IsSound, NamePayments, NamesAPayment, seen_in}
use Rattle.card_daily.specs.Posts.{returned_after}
use Rattle.card_daily.specs.Returns.{SeesPayment}
use Rattle.card_daily.specs.Stands.{posts_of, returned_by}

-- ---- searches
any-filter : (p q : CorrectedPost → Bool) (xs : List CorrectedPost) → list_any p (filter q xs) ≡ list_any (λ x. q x && p x) xs
any-filter p q [] = refl
any-filter p q (x ∷ xs) = by (q x) (any-filter p q xs)
  where
    by : (t : Bool) → list_any p (filter q xs) ≡ list_any (λ x. q x && p x) xs → list_any p (cond t (x ∷ filter q xs) (filter q xs)) ≡ ((t && p x) || list_any (λ x. q x && p x) xs)
    by true h = ap (λ u. p x || u) h
    by false h = h

any-or : (p q : CorrectedPost → Bool) (xs : List CorrectedPost) → list_any (λ x. p x || q x) xs ≡ (list_any p xs || list_any q xs)
any-or p q [] = refl
any-or p q (x ∷ xs) = ap (λ u. (p x || q x) || u) (any-or p q xs) ∙ swap (p x) (q x) (list_any p xs) (list_any q xs)
  where
    swap : (a b c d : Bool) → ((a || b) || (c || d)) ≡ ((a || c) || (b || d))
    swap true b c d = refl
    swap false true true d = refl
    swap false true false d = refl
    swap false false c d = refl

any-each : (p q : CorrectedPost → Bool) (xs : List CorrectedPost) → ((x : CorrectedPost) → p x ≡ q x) → list_any p xs ≡ list_any q xs
any-each p q [] h = refl
any-each p q (x ∷ xs) h = ap (λ u. u || list_any p xs) (h x) ∙ ap (λ u. q x || u) (any-each p q xs h)

any-none : (p : CorrectedPost → Bool) (xs : List CorrectedPost) → All (λ x. p x ≡ false) xs → list_any p xs ≡ false
any-none p [] h = refl
any-none p (x ∷ xs) h = ap (λ u. u || list_any p xs) (All-head (λ x. p x ≡ false) x xs h) ∙ any-none p xs (All-tail (λ x. p x ≡ false) x xs h)

-- ---- Returns
-- what a Return names
pub named : (history : List Kept) (m n : ℕ) (p : Post) → NamesAPayment history m p → returns n p ≡ true → (n < m) × (is_payment_at (at_number n history) ≡ true)
named history m n (post.Return d t) h e = subst (λ k. (k < m) × (is_payment_at (at_number k history) ≡ true)) (eqb-true t n e) h
named history m n (post.Charge d p c) h e = absurd (cc)
named history m n (post.Credit d p c) h e = absurd (cc)
named history m n (post.Payment d k b c) h e = absurd (cc)
named history m n (post.Plan d k r x f) h e = absurd (cc)
named history m n (post.Notice d c r x) h e = absurd (cc)
named history m n (post.Lower d c r) h e = absurd (cc)
named history m n post.Penalty h e = absurd (cc)
named history m n (post.Dispute d t c) h e = absurd (cc)
named history m n (post.Resolve d t c) h e = absurd (cc)
named history m n (post.Refund c) h e = absurd (cc)
named history m n (post.Open d t) h e = absurd (cc)
named history m n (post.OpenVariable d t) h e = absurd (cc)
named history m n (post.Review d f) h e = absurd (cc)
named history m n (post.Ack d t) h e = absurd (cc)
named history m n (post.AskRefund d) h e = absurd (cc)
named history m n (post.Amend t d c) h e = absurd (cc)
named history m n (post.Bill c) h e = absurd (cc)

abbrev pub Names : List Kept → CorrectedPost → Type 0
Names history p = NamesAPayment history p.number p.post

names-from : (a : Anchor) (holidays : List ℕ) (history : List Kept) (n segment : ℕ) (ks : List Kept) → NamePayments history n ks → All (Names history) (corrected_from a holidays history n segment ks)
unfolding corrected_from corrected_post NamePayments
names-from a holidays history n segment [] h = All-nil (Names history)
names-from a holidays history n segment (k ∷ ks) h =
    All-cons (Names history) (corrected_post a holidays history n segment k) (corrected_from a holidays history (suc n) (next_segment segment k.post) ks) h.0
    (names-from a holidays history (suc n) (next_segment segment k.post) ks h.1)

abbrev all_posts : Given → List CorrectedPost
all_posts g = corrected (anchor_of g.history) g.shared.holidays g.history

pub all-name : (g : Given) → IsSound g → All (Names g.history) (all_posts g)
all-name g s = names-from (anchor_of g.history) g.shared.holidays g.history 1 5 g.history s.returns

abbrev pub StandsIn : Given → CorrectedPost → Type 0
StandsIn g p = Stands (anchor_of g.history) g.shared.holidays g.history p

-- ---- before the posts of a day, and after each
or-false : (t : Bool) → (t || false) ≡ t
or-false true = refl
or-false false = refl

pub returned-start : (g : Given) (day n : ℕ) → returned_by g day [] n ≡ is_returned (seen_in g (day - 1)).posts (day - 1) n
returned-start g day n = or-false (is_returned (seen_in g (day - 1)).posts (day - 1) n)

or-assoc : (a b c : Bool) → (a || (b || c)) ≡ ((a || b) || c)
or-assoc true b c = refl
or-assoc false b c = refl

pub returned-next : (g : Given) (day i n : ℕ) (d : CorrectedPost) → i < length (posts_of g day)
    → returned_by g day (take (i + 1) (posts_of g day)) n ≡ returned_after (returned_by g day (take i (posts_of g day))) (get_or (posts_of g day) i d).post n
returned-next g day i n d l =
    let ps = posts_of g day in
    let test : CorrectedPost → Bool = λ (p : CorrectedPost). returns n p.post in
    let last : list_any test (get_or ps i d ∷ []) ≡ test (get_or ps i d) = or-false (test (get_or ps i d)) in
    let whole : list_any test (take (i + 1) ps) ≡ (list_any test (take i ps) || test (get_or ps i d)) =
    ap (list_any test) (take_more ps i d l) ∙ (list_any-append test (take i ps) (get_or ps i d ∷ []) ∙ ap (λ u. list_any test (take i ps) || u) last) in
    ap (λ u. is_returned (seen_in g (day - 1)).posts (day - 1) n || u) whole ∙ or-assoc (is_returned (seen_in g (day - 1)).posts (day - 1) n) (list_any test (take i ps)) (test (get_or ps i d))

-- ---- after all of them
table : (f b c e r : Bool) → (r ≡ true → f ≡ true) → b ≡ (c || e) → (f && (b && (r && b))) ≡ ((f && (c && (r && c))) || (e && r))
table true b true true true h q = rw q refl
table true b true false true h q = rw q refl
table true b false true true h q = rw q refl
table true b false false true h q = rw q refl
table false b c e true h q = let no : false ≡ true = h refl in absurd (cc)
table true b true true false h q = rw q refl
table true b true false false h q = rw q refl
table true b false true false h q = rw q refl
table true b false false false h q = rw q refl
table false b c true false h q = refl
table false b c false false h q = refl

by-day : (x day : ℕ) → 1 ≤ day → leb x day ≡ (leb x (day - 1) || eqb x day)
by-day x day l = grind (arith, nat_tests)

pub returned-all : (g : Given) (day n : ℕ) → 1 ≤ day → is_returned (seen_in g day).posts day n ≡ returned_by g day (posts_of g day) n
returned-all g day n l =
    let all = all_posts g in
    let f : CorrectedPost → Bool = λ (p : CorrectedPost). is_folded p.post in
    let r : CorrectedPost → Bool = λ (p : CorrectedPost). returns n p.post in
    let upto : ℕ → CorrectedPost → Bool = λ x (p : CorrectedPost). leb p.day x in
    let today : CorrectedPost → Bool = λ (p : CorrectedPost). eqb p.day day in
    let flat = λ (x : ℕ). any-filter (λ p. r p && upto x p) (upto x) (filter f all) ∙ any-filter (λ p. upto x p && (r p && upto x p)) f all in
    flat day
    ∙ (any-each (λ p. f p && (upto day p && (r p && upto day p))) (λ p. (f p && (upto (day - 1) p && (r p && upto (day - 1) p))) || (today p && r p)) all
    (λ p. table (f p) (upto day p) (upto (day - 1) p) (today p) (r p) (return-folded n p.post) (by-day p.day day l))
    ∙ (any-or (λ p. f p && (upto (day - 1) p && (r p && upto (day - 1) p))) (λ p. today p && r p) all
    ∙ (ap (λ u. u || list_any (λ p. today p && r p) all) (sym (flat (day - 1)))
    ∙ ap (λ u. is_returned (seen_in g (day - 1)).posts (day - 1) n || u) (sym (any-filter r today all)))))

-- ---- a payment isn't returned before it is folded
numbers-apart : (low i k : ℕ) (d : CorrectedPost) (ps : List CorrectedPost) → Numbers low ps → k < i → i < length ps → (get_or ps k d).number < (get_or ps i d).number
numbers-apart low i k d [] h l m = absurd (omega (arith, m))
numbers-apart low zero k d (p ∷ ps) h l m = absurd (omega (arith, l))
numbers-apart low (suc i) (suc k) d (p ∷ ps) h l m = numbers-apart (suc p.number) i k d ps h.1 (omega (arith, l)) (omega (arith, m))
numbers-apart low (suc i) zero d (p ∷ ps) h l m = first (suc p.number) i ps h.1 (omega (arith, m))
  where
    first : (low i : ℕ) (qs : List CorrectedPost) → Numbers low qs → i < length qs → low ≤ (get_or qs i d).number
    first low i [] h m = absurd (omega (arith, m))
    first low zero (q ∷ qs) h m = h.0
    first low (suc i) (q ∷ qs) h m = let more = first (suc q.number) i qs h.1 (omega (arith, m)) in let l = h.0 in omega (arith, more, l)

day-numbers : (g : Given) (day : ℕ) → Numbers 1 (posts_of g day)
day-numbers g day = numbers-filter (λ p. eqb p.day day) 1 (all_posts g) (slots-number (anchor_of g.history) g.shared.holidays g.history 1 5 g.history)

day-stand : (g : Given) (day : ℕ) → All (StandsIn g) (posts_of g day)
day-stand g day = All-filter (λ (p : CorrectedPost). eqb p.day day) (StandsIn g) (all_posts g) (all-stand (anchor_of g.history) g.shared.holidays g.history)

day-names : (g : Given) (day : ℕ) → IsSound g → All (Names g.history) (posts_of g day)
day-names g day s = All-filter (λ (p : CorrectedPost). eqb p.day day) (Names g.history) (all_posts g) (all-name g s)

on-day : (g : Given) (day i : ℕ) (d : CorrectedPost) → i < length (posts_of g day) → (get_or (posts_of g day) i d).day ≡ day
on-day g day i d l = eqb-true (get_or (posts_of g day) i d).day day (All-get_or (λ (p : CorrectedPost). eqb p.day day ≡ true) (posts_of g day) i d l (filter_passes (λ (p : CorrectedPost). eqb p.day day) (all_posts g)))

not-true : (t : Bool) → (t ≡ true → ⊥) → t ≡ false
not-true true h = absurd (h refl)
not-true false h = refl

no-and : (t u : Bool) → (t ≡ true → u ≡ true → ⊥) → (t && u) ≡ false
no-and true true h = absurd (h refl refl)
no-and true false h = refl
no-and false u h = refl

-- none of an earlier day returns it
earlier-none : (g : Given) (day : ℕ) (p : CorrectedPost) → 1 ≤ day → StandsIn g p → p.day ≡ day → is_payment p.post ≡ true → is_returned (seen_in g (day - 1)).posts (day - 1) p.number ≡ false
earlier-none g day p l s e pays =
    any-none (λ (q : CorrectedPost). returns p.number q.post && leb q.day (day - 1)) (seen_in g (day - 1)).posts
    (λ k d m.
    let those = All-filter (λ (q : CorrectedPost). leb q.day (day - 1)) (StandsIn g) (filter (λ (q : CorrectedPost). is_folded q.post) (all_posts g))
    (All-filter (λ (q : CorrectedPost). is_folded q.post) (StandsIn g) (all_posts g) (all-stand (anchor_of g.history) g.shared.holidays g.history)) in
    let q = get_or (seen_in g (day - 1)).posts k d in
    no-and (returns p.number q.post) (leb q.day (day - 1))
    (λ t u.
    let later : p.day ≤ q.day = return-later (anchor_of g.history) g.shared.holidays g.history p q s (those k d m) pays t in
    let by = leb-true q.day (day - 1) u in
    omega (arith, later, by, e, l)))

take-at : (i k : ℕ) (d : CorrectedPost) (ps : List CorrectedPost) → k < length (take i ps) → (get_or (take i ps) k d ≡ get_or ps k d) × (k < i)
take-at zero k d ps m = absurd (omega (arith, m))
take-at (suc i) k d [] m = absurd (omega (arith, m))
take-at (suc i) zero d (p ∷ ps) m = (refl, omega arith)
take-at (suc i) (suc k) d (p ∷ ps) m = let rest = take-at i k d ps (omega (arith, m)) in (rest.0, let l = rest.1 in omega (arith, l))

pub not-returned : (g : Given) (day i : ℕ) (d : CorrectedPost) → IsSound g → 1 ≤ day → i < length (posts_of g day) → is_payment (get_or (posts_of g day) i d).post ≡ true
    → returned_by g day (take i (posts_of g day)) (get_or (posts_of g day) i d).number ≡ false
not-returned g day i d s l m pays =
    let ps = posts_of g day in
    let p = get_or ps i d in
    let stands = All-get_or (StandsIn g) ps i d m (day-stand g day) in
    let first = earlier-none g day p l stands (on-day g day i d m) pays in
    let second = any-none (λ (q : CorrectedPost). returns p.number q.post) (take i ps)
    (λ k x n.
    let at = take-at i k x ps n in
    let below = at.1 in
    let q = get_or ps k x in
    let names = day-names g day s k x (omega (arith, below, m)) in
    let less = numbers-apart 1 i k x ps (day-numbers g day) below m in
    let same : get_or ps i x ≡ p = get-any ps i x d m in
    ap (λ (q : CorrectedPost). returns p.number q.post) at.0
    ∙ not-true (returns p.number q.post) (λ t. let high = (named g.history q.number p.number q.post names t).0 in let number = ap (λ (r : CorrectedPost). r.number) same in omega (arith, high, less, number))) in
    ap (λ u. u || list_any (λ (q : CorrectedPost). returns p.number q.post) (take i ps)) first ∙ second
  where
    get-any : (ps : List CorrectedPost) (i : ℕ) (x d : CorrectedPost) → i < length ps → get_or ps i x ≡ get_or ps i d
    get-any [] i x d m = absurd (omega (arith, m))
    get-any (p ∷ ps) zero x d m = refl
    get-any (p ∷ ps) (suc i) x d m = get-any ps i x d (omega (arith, m))

-- ---- the fold of a Return's day sees the payment
abbrev IsSeen : ℕ → ℕ → CorrectedPost → Type 0
IsSeen day n p = eqb p.number n ≡ true → (is_payment p.post ≡ true) × (p.day ≤ day)

seen-there : (day n : ℕ) (ps : List CorrectedPost) → All (IsSeen day n) ps → payment_at n (filter (λ p. leb p.day day) (filter (λ p. is_folded p.post) ps)) ≡ post_at n ps
seen-there day n [] h = refl
seen-there day n (p ∷ ps) h = by (eqb p.number n) refl (seen-there day n ps (All-tail (IsSeen day n) p ps h))
  where
    rest : List CorrectedPost
    rest = filter (λ p. leb p.day day) (filter (λ p. is_folded p.post) ps)

    left : (t u : Bool) → eqb p.number n ≡ false → payment_at n rest ≡ post_at n ps → payment_at n (cond t (cond u (p ∷ rest) rest) rest) ≡ post_at n ps
    left true true q ih = rw q ih
    left true false q ih = ih
    left false u q ih = ih

    out : (t : Bool) → eqb p.number n ≡ false → payment_at n rest ≡ post_at n ps → payment_at n (filter (λ p. leb p.day day) (cond t (p ∷ filter (λ p. is_folded p.post) ps) (filter (λ p. is_folded p.post) ps))) ≡ post_at n ps
    out true q ih = left true (leb p.day day) q ih
    out false q ih = ih

    by : (t : Bool) → eqb p.number n ≡ t → payment_at n rest ≡ post_at n ps → payment_at n (filter (λ p. leb p.day day) (filter (λ p. is_folded p.post) (p ∷ ps))) ≡ cond t (Some p) (post_at n ps)
    by false q ih = out (is_folded p.post) q ih
    by true q ih =
        let here = All-head (IsSeen day n) p ps h q in
        let folds = payment-folded p.post here.0 in
        let early : leb p.day day ≡ true = let l = here.1 in grind (arith, nat_tests) in
        rw (folds, early, q, here.0) refl

get-below : (m : ℕ) (ks : List Kept) (k : Kept) → slice_get ks m ≡ Some k → m < length ks
get-below zero [] k e = cc
get-below (suc m) [] k e = cc
get-below zero (x ∷ ks) k e = omega arith
get-below (suc m) (x ∷ ks) k e = let more = get-below m ks k e in omega (arith, more)

pub at-most : (n : ℕ) (history : List Kept) → is_payment_at (at_number n history) ≡ true → n ≤ length history
at-most zero history e = omega arith
at-most (suc m) history e = by (slice_get history m) refl e
  where
    by : (o : Option Kept) → slice_get history m ≡ o → is_payment_at o ≡ true → suc m ≤ length history
    by None q e = cc
    by (Some k) q e = let below = get-below m history k q in omega (arith, below)

pub sees-payment : (g : Given) (day i n : ℕ) (d : CorrectedPost) → IsSound g → i < length (posts_of g day) → returns n (get_or (posts_of g day) i d).post ≡ true
    → (n ≤ post_limit) × SeesPayment g day n
sees-payment g day i n d s m gives =
    let q = get_or (posts_of g day) i d in
    let names = All-get_or (Names g.history) (posts_of g day) i d m (day-names g day s) in
    let is = named g.history q.number n q.post names gives in
    let stands = All-get_or (StandsIn g) (posts_of g day) i d m (day-stand g day) in (
      let count = s.accepted.count in let few = at-most n g.history is.1 in omega (arith, count, few),
      seen-there day n (all_posts g)
          (λ k x l e.
          let p = get_or (all_posts g) k x in
          let there = all-stand (anchor_of g.history) g.shared.holidays g.history k x l in
          let number : p.number ≡ n = eqb-true p.number n e in
          let pays : is_payment p.post ≡ true = ap is_payment there.same ∙ (sym (ap is_payment_at there.found) ∙ (ap (λ j. is_payment_at (at_number j g.history)) number ∙ is.1)) in
          let later : p.day ≤ q.day = return-later (anchor_of g.history) g.shared.holidays g.history p q there stands pays (ap (λ j. returns j q.post) number ∙ gives) in
          (pays, let on = on-day g day i d m in omega (arith, later, on))),
    )
