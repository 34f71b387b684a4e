-- The segments that posts add, one post after the other.
use Rattle.std.proofs.Common.{◌≡◌, ℕ, suc, ◌+◌, ◌≤◌, cond, List, [], ◌∷◌, ◌++◌, length, length-append, append_assoc, drop, map, refl, sym, ap, ◌∙◌, arith, Option, Some, None}
use Rattle.std.proofs.lemmas.List.Sums.{sum_by-cons}
use Rattle.std.specs.Prelude.{option_map}
use Rattle.std.specs.List.{cons_option, count_by}
use Rattle.card_events.specs.History.{adds_segment, anchor_of, at_number, next_segment}
use Rattle.card_events.specs.declared.kept.Kept.{Kept}
use Rattle.card_events.specs.declared.post.Post.{Post}
use Rattle.card_events.specs.declared.post.Post.TheVariants as post
use Rattle.card_model.specs.Segments.{kept_segment, segment_of, segments}
use Rattle.card_model.specs.declared.segment.Segment.{Segment}
use Rattle.card_rates.specs.Added.{added_from}
use Rattle.card_model.specs.Accepted.{HasFewSegments}
use Rattle.card_rates.proofs.Added.{added-is, drop-next}
use Rattle.card_segments.specs.Balances.{opening_segments}
use Rattle.card_rates.specs.Segments.{account_segments, kept_from, kept_of}

-- ---- the numbers of segments don't count
same-kept : (s n : ℕ) (p : Post) → option_map kept_segment (segment_of s n p) ≡ kept_of n p
same-kept s n (post.Plan d k r e f) = refl
same-kept s n (post.Notice d c r e) = refl
same-kept s n (post.Open d t) = refl
same-kept s n (post.OpenVariable d t) = refl
same-kept s n (post.Charge d p c) = refl
same-kept s n (post.Credit d p c) = refl
same-kept s n (post.Payment d x y c) = refl
same-kept s n (post.Return d t) = refl
same-kept s n (post.Lower d c r) = refl
same-kept s n post.Penalty = refl
same-kept s n (post.Review d f) = refl
same-kept s n (post.Dispute d t c) = refl
same-kept s n (post.Ack d t) = refl
same-kept s n (post.Resolve d t c) = refl
same-kept s n (post.AskRefund d) = refl
same-kept s n (post.Refund c) = refl
same-kept s n (post.Amend t d c) = refl
same-kept s n (post.Bill c) = refl

map-option : {X Y : Type 0} (f : X → Y) (o : Option X) (xs : List X) → map f (cons_option o xs) ≡ cons_option (option_map f o) (map f xs)
map-option f None xs = refl
map-option f (Some x) xs = refl

kept-added : (s n : ℕ) (ks : List Kept) → map kept_segment (added_from n s ks) ≡ kept_from n ks
unfolding added_from kept_from
kept-added s n [] = refl
kept-added s n (k ∷ ks) =
    map-option kept_segment (segment_of s n k.post) (added_from (suc n) (next_segment s k.post) ks)
    ∙ (ap (λ o. cons_option o (map kept_segment (added_from (suc n) (next_segment s k.post) ks))) (same-kept s n k.post) ∙ ap (cons_option (kept_of n k.post)) (kept-added (next_segment s k.post) (suc n) ks))

-- those of an account are the opening ones and what its posts add
pub segments-are : (holidays : List ℕ) (history : List Kept) → account_segments holidays history ≡ opening_segments (anchor_of history).opened ++ kept_from 1 history
unfolding segments
segments-are holidays history =
    ap (λ gs. opening_segments (anchor_of history).opened ++ map kept_segment gs) (added-is (anchor_of history) holidays history 1 5 history)
    ∙ ap (λ gs. opening_segments (anchor_of history).opened ++ gs) (kept-added 5 1 history)

-- ---- how many there are
count-one : (n : ℕ) (p : Post) → length (cons_option (kept_of n p) []) ≡ cond (adds_segment p) 1 0
count-one n (post.Plan d k r e f) = refl
count-one n (post.Notice d c r e) = refl
count-one n (post.Open d t) = refl
count-one n (post.OpenVariable d t) = refl
count-one n (post.Charge d p c) = refl
count-one n (post.Credit d p c) = refl
count-one n (post.Payment d x y c) = refl
count-one n (post.Return d t) = refl
count-one n (post.Lower d c r) = refl
count-one n post.Penalty = refl
count-one n (post.Review d f) = refl
count-one n (post.Dispute d t c) = refl
count-one n (post.Ack d t) = refl
count-one n (post.Resolve d t c) = refl
count-one n (post.AskRefund d) = refl
count-one n (post.Refund c) = refl
count-one n (post.Amend t d c) = refl
count-one n (post.Bill c) = refl

onto : {X : Type 0} (o : Option X) (xs : List X) → cons_option o [] ++ xs ≡ cons_option o xs
onto None xs = refl
onto (Some x) xs = refl

length-option : {X : Type 0} (o : Option X) (xs : List X) → length (cons_option o xs) ≡ length (cons_option o []) + length xs
length-option None xs = omega arith
length-option (Some x) xs = omega arith

count-kept : (n : ℕ) (ks : List Kept) → length (kept_from n ks) ≡ count_by (λ k. adds_segment k.post) ks
unfolding kept_from
count-kept n [] = refl
count-kept n (k ∷ ks) =
    let one = length-option (kept_of n k.post) (kept_from (suc n) ks) in
    let first = count-one n k.post in
    let more = sum_by-cons (λ (x : Kept). cond (adds_segment x.post) 1 0) k ks in
    let rest = count-kept (suc n) ks in
    omega (arith, one, first, more, rest)

pub few-kept : (history : List Kept) → HasFewSegments history → 5 + length (kept_from 1 history) ≤ 64
few-kept history few = let same = count-kept 1 history in omega (arith, same, few)

-- ---- one post more
pub keep-next : (ks : List Kept) (i : ℕ) (k : Kept) → at_number (i + 1) ks ≡ Some k → kept_from (i + 1) (drop i ks) ≡ cons_option (kept_of (i + 1) k.post) (kept_from (i + 1 + 1) (drop (i + 1) ks))
unfolding kept_from
keep-next ks i k e =
    let one : suc (i + 1) ≡ i + 1 + 1 = omega arith in
    ap (kept_from (i + 1)) (drop-next ks i k e) ∙ ap (λ n. cons_option (kept_of (i + 1) k.post) (kept_from n (drop (i + 1) ks))) one

-- what was added, and what is still to be added
pub add-next : (before after whole : List Segment) (ks : List Kept) (i : ℕ) (k : Kept) → at_number (i + 1) ks ≡ Some k → after ≡ before ++ cons_option (kept_of (i + 1) k.post) []
    → before ++ kept_from (i + 1) (drop i ks) ≡ whole → after ++ kept_from (i + 1 + 1) (drop (i + 1) ks) ≡ whole
add-next before after whole ks i k e is h =
    let o = kept_of (i + 1) k.post in
    let rest = kept_from (i + 1 + 1) (drop (i + 1) ks) in
    ap (λ x. x ++ rest) is ∙ (append_assoc before (cons_option o []) rest ∙ (ap (λ x. before ++ x) (onto o rest ∙ sym (keep-next ks i k e)) ∙ h))

-- there is room for it
pub room : (before whole : List Segment) (ks : List Kept) (i : ℕ) (k : Kept) → at_number (i + 1) ks ≡ Some k → before ++ kept_from (i + 1) (drop i ks) ≡ whole → length whole ≤ 64
    → length before + length (cons_option (kept_of (i + 1) k.post) []) ≤ 64
room before whole ks i k e h few =
    let long = length-append before (kept_from (i + 1) (drop i ks)) in
    let next = ap length (keep-next ks i k e) in
    let more = length-option (kept_of (i + 1) k.post) (kept_from (i + 1 + 1) (drop (i + 1) ks)) in
    let all = ap length h in
    omega (arith, long, next, more, all, few)
