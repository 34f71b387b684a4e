-- What posts add, one after the other.
use Rattle.std.proofs.Common.{◌≡◌, ℕ, zero, suc, ◌+◌, Bool, true, false, cond, List, [], ◌∷◌, ◌++◌, length, length-append, append_assoc, drop, take, refl, sym, ap, ◌∙◌, arith, Option, Some, None}
use Rattle.std.proofs.lemmas.List.Elements.{filter_map-append}
use Rattle.std.proofs.lemmas.List.Sums.{sum_by-drop_more}
use Rattle.std.proofs.lemmas.Option.{get_or_from_slice_get, slice_get_within}
use Rattle.std.specs.Prelude.{slice_get}
use Rattle.std.specs.List.{cons_option, count_by, filter_map}
use Rattle.card_events.specs.declared.anchor.Anchor.{Anchor}
use Rattle.card_events.specs.History.{adds_segment, anchor_of, at_number, corrected, corrected_from, corrected_post, is_variable, next_segment, opening_in, opens_variable, terms_in, terms_of}
use Rattle.card_events.specs.declared.kept.Kept.{Kept}
use Rattle.card_events.specs.declared.post.Post.{Post}
use Rattle.card_events.specs.declared.post.Post.TheVariants as post
use Rattle.card_events.specs.declared.post.Terms.{Terms}
use Rattle.card_model.specs.Rates.{Lowering, lowering_of, lowerings}
use Rattle.card_model.specs.Segments.{SegmentTerms, opening_vintages, segment_of, segments}
use Rattle.card_model.specs.declared.segment.Interval.{Interval}
use Rattle.card_rates.specs.Added.{added_from}
use Rattle.card_rates.specs.RateBooks.{AreByNumber, Rates}

-- ---- the corrected list
pub added-is : (a : Anchor) (holidays : List ℕ) (history : List Kept) (n s : ℕ) (ks : List Kept)
    → filter_map (λ p. segment_of p.segment p.number p.post) (corrected_from a holidays history n s ks) ≡ added_from n s ks
unfolding corrected_from corrected_post added_from
added-is a holidays history n s [] = refl
added-is a holidays history n s (k ∷ ks) = ap (cons_option (segment_of s n k.post)) (added-is a holidays history (suc n) (next_segment s k.post) ks)

pub lowered-is : (a : Anchor) (holidays : List ℕ) (history : List Kept) (n s : ℕ) (ks : List Kept)
    → lowerings (corrected_from a holidays history n s ks) ≡ filter_map (λ k. lowering_of k.post) ks
unfolding lowerings corrected_from corrected_post
lowered-is a holidays history n s [] = refl
lowered-is a holidays history n s (k ∷ ks) = ap (cons_option (lowering_of k.post)) (lowered-is a holidays history (suc n) (next_segment s k.post) ks)

-- ---- numbers
numbered-next : (s n : ℕ) (p : Post) (gs : List SegmentTerms) → AreByNumber (next_segment s p) gs → AreByNumber s (cons_option (segment_of s n p) gs)
unfolding AreByNumber
numbered-next s n (post.Plan d k r e f) gs h = (refl, next h)
  where
    next : AreByNumber (s + 1) gs → AreByNumber (suc s) gs
    next h = let e : s + 1 ≡ suc s = omega arith in rw (← e) h
numbered-next s n (post.Notice d c r e) gs h = (refl, next h)
  where
    next : AreByNumber (s + 1) gs → AreByNumber (suc s) gs
    next h = let e : s + 1 ≡ suc s = omega arith in rw (← e) h
numbered-next s n (post.Open d t) gs h = h
numbered-next s n (post.OpenVariable d t) gs h = h
numbered-next s n (post.Charge d p c) gs h = h
numbered-next s n (post.Credit d p c) gs h = h
numbered-next s n (post.Payment d m y c) gs h = h
numbered-next s n (post.Return d t) gs h = h
numbered-next s n (post.Lower d c r) gs h = h
numbered-next s n post.Penalty gs h = h
numbered-next s n (post.Review d f) gs h = h
numbered-next s n (post.Dispute d t c) gs h = h
numbered-next s n (post.Ack d t) gs h = h
numbered-next s n (post.Resolve d t c) gs h = h
numbered-next s n (post.AskRefund d) gs h = h
numbered-next s n (post.Refund c) gs h = h
numbered-next s n (post.Amend t d c) gs h = h
numbered-next s n (post.Bill c) gs h = h

pub added-by-number : (n s : ℕ) (ks : List Kept) → AreByNumber s (added_from n s ks)
unfolding AreByNumber added_from
added-by-number n s [] = tt
added-by-number n s (k ∷ ks) = numbered-next s n k.post (added_from (suc n) (next_segment s k.post) ks) (added-by-number (suc n) (next_segment s k.post) ks)

-- ---- one post more
place-first : (ks : List Kept) (i : ℕ) (k : Kept) → slice_get ks i ≡ Some k → drop i ks ≡ k ∷ drop (suc i) ks
place-first [] i k e = cc
place-first (x ∷ xs) zero k e = let same : x ≡ k = cc in ap (λ y. y ∷ xs) same
place-first (x ∷ xs) (suc i) k e = place-first xs i k e

pub drop-next : (ks : List Kept) (i : ℕ) (k : Kept) → at_number (i + 1) ks ≡ Some k → drop i ks ≡ k ∷ drop (i + 1) ks
drop-next ks i k e =
    let one : suc i ≡ i + 1 = omega arith in
    let there : slice_get ks i ≡ Some k = ap (λ n. at_number n ks) one ∙ e in
    place-first ks i k there ∙ ap (λ n. k ∷ drop n ks) one

-- how many segments a post adds
length-next : (s n m : ℕ) (p : Post) → m + length (cons_option (segment_of s n p) []) + 2 ≡ next_segment (m + 2) p
length-next s n m (post.Plan d k r e f) = omega arith
length-next s n m (post.Notice d c r e) = omega arith
length-next s n m (post.Open d t) = omega arith
length-next s n m (post.OpenVariable d t) = omega arith
length-next s n m (post.Charge d p c) = omega arith
length-next s n m (post.Credit d p c) = omega arith
length-next s n m (post.Payment d x y c) = omega arith
length-next s n m (post.Return d t) = omega arith
length-next s n m (post.Lower d c r) = omega arith
length-next s n m post.Penalty = omega arith
length-next s n m (post.Review d f) = omega arith
length-next s n m (post.Dispute d t c) = omega arith
length-next s n m (post.Ack d t) = omega arith
length-next s n m (post.Resolve d t c) = omega arith
length-next s n m (post.AskRefund d) = omega arith
length-next s n m (post.Refund c) = omega arith
length-next s n m (post.Amend t d c) = omega arith
length-next s n m (post.Bill c) = omega arith

next-one : (p : Post) → next_segment 2 p ≡ 2 + cond (adds_segment p) 1 0
next-one p = by (adds_segment p)
  where
    by : (t : Bool) → cond t (2 + 1) 2 ≡ 2 + cond t 1 0
    by true = refl
    by false = refl

option-append : {A : Type 0} (o : Option A) (xs : List A) → cons_option o [] ++ xs ≡ cons_option o xs
option-append None xs = refl
option-append (Some x) xs = refl

-- what was added, and what is still to be added
pub add-next : (before after : List SegmentTerms) (ks : List Kept) (i : ℕ) (k : Kept) → at_number (i + 1) ks ≡ Some k
    → after ≡ before ++ cons_option (segment_of (length before + 2) (i + 1) k.post) []
    → after ++ added_from (i + 1 + 1) (length after + 2) (drop (i + 1) ks) ≡ before ++ added_from (i + 1) (length before + 2) (drop i ks)
unfolding added_from
add-next before after ks i k e is =
    let o = segment_of (length before + 2) (i + 1) k.post in
    let rest = drop (i + 1) ks in
    let long : length after + 2 ≡ next_segment (length before + 2) k.post =
    ap (λ x. length x + 2) is ∙ (ap (λ x. x + 2) (length-append before (cons_option o [])) ∙ length-next (length before + 2) (i + 1) (length before) k.post) in
    let one : i + 1 + 1 ≡ suc (i + 1) = omega arith in
    let next : added_from (i + 1 + 1) (length after + 2) rest ≡ added_from (suc (i + 1)) (next_segment (length before + 2) k.post) rest =
    ap (λ x. added_from x (length after + 2) rest) one ∙ ap (λ x. added_from (suc (i + 1)) x rest) long in
    ap (λ x. after ++ x) next
    ∙ (ap (λ x. x ++ added_from (suc (i + 1)) (next_segment (length before + 2) k.post) rest) is
    ∙ (append_assoc before (cons_option o []) (added_from (suc (i + 1)) (next_segment (length before + 2) k.post) rest)
    ∙ (ap (λ x. before ++ x) (option-append o (added_from (suc (i + 1)) (next_segment (length before + 2) k.post) rest))
    ∙ ap (λ x. before ++ added_from (i + 1) (length before + 2) x) (sym (drop-next ks i k e)))))

-- the segments that may still be added
pub few-next : (before after : List SegmentTerms) (ks : List Kept) (i : ℕ) (k : Kept) → at_number (i + 1) ks ≡ Some k
    → after ≡ before ++ cons_option (segment_of (length before + 2) (i + 1) k.post) []
    → length after + count_by (λ x. adds_segment x.post) (drop (i + 1) ks) ≡ length before + count_by (λ x. adds_segment x.post) (drop i ks)
few-next before after ks i k e is =
    let o = segment_of (length before + 2) (i + 1) k.post in
    let long : length after ≡ length before + length (cons_option o []) = ap length is ∙ length-append before (cons_option o []) in
    let adds = λ (x : Kept). adds_segment x.post in
    let one : suc i ≡ i + 1 = omega arith in
    let there : slice_get ks i ≡ Some k = ap (λ n. at_number n ks) one ∙ e in
    let rest : count_by adds (drop i ks) ≡ cond (adds_segment k.post) 1 0 + count_by adds (drop (i + 1) ks) =
    sum_by-drop_more (λ (x : Kept). cond (adds_segment x.post) 1 0) ks i k (slice_get_within ks i k there)
    ∙ ap (λ (x : Kept). cond (adds_segment x.post) 1 0 + count_by adds (drop (i + 1) ks)) (get_or_from_slice_get ks i k k there) in
    let added : 0 + length (cons_option o []) + 2 ≡ next_segment 2 k.post = length-next (length before + 2) (i + 1) 0 k.post in
    let more = next-one k.post in
    omega (arith, long, rest, added, more)

-- ---- Lowers
pub take-next : (ks : List Kept) (i : ℕ) (k : Kept) → slice_get ks i ≡ Some k → take (suc i) ks ≡ take i ks ++ k ∷ []
take-next [] i k e = cc
take-next (x ∷ xs) zero k e = let same : x ≡ k = cc in ap (λ y. y ∷ []) same
take-next (x ∷ xs) (suc i) k e = ap (λ ys. x ∷ ys) (take-next xs i k e)

pub lowered-next : (ks : List Kept) (i : ℕ) (k : Kept) → at_number (i + 1) ks ≡ Some k
    → filter_map (λ x. lowering_of x.post) (take (i + 1) ks) ≡ filter_map (λ x. lowering_of x.post) (take i ks) ++ cons_option (lowering_of k.post) []
lowered-next ks i k e =
    let one : suc i ≡ i + 1 = omega arith in
    let there : slice_get ks i ≡ Some k = ap (λ n. at_number n ks) one ∙ e in
    let f = λ (x : Kept). lowering_of x.post in
    ap (λ n. filter_map f (take n ks)) (sym one) ∙ (ap (filter_map f) (take-next ks i k there) ∙ filter_map-append f (take i ks) (k ∷ []))

-- ---- the whole
pub all-by-number : (opened : ℕ) (terms : Terms) (ks : List Kept) → AreByNumber 2 (opening_vintages opened terms ++ added_from 1 5 ks)
unfolding AreByNumber
all-by-number opened terms ks = (refl, (refl, (refl, added-by-number 1 5 ks)))

pub segments-are : (a : Anchor) (terms : Terms) (holidays : List ℕ) (history : List Kept)
    → segments a terms (corrected a holidays history) ≡ opening_vintages a.opened terms ++ added_from 1 5 history
unfolding segments
segments-are a terms holidays history = ap (λ gs. opening_vintages a.opened terms ++ gs) (added-is a holidays history 1 5 history)

pub first-terms : (ks : List Kept) (k : Kept) → at_number 1 ks ≡ Some k → terms_in k.post ≡ terms_of ks
first-terms [] k e = cc
first-terms (x ∷ xs) k e = let same : k ≡ x = cc in ap (λ (y : Kept). terms_in y.post) same

pub first-opening : (ks : List Kept) (k : Kept) → at_number 1 ks ≡ Some k → opening_in k.post ≡ (anchor_of ks).opened
first-opening [] k e = cc
first-opening (x ∷ xs) k e = let same : k ≡ x = cc in ap (λ (y : Kept). opening_in y.post) same

pub first-variable : (ks : List Kept) (k : Kept) → at_number 1 ks ≡ Some k → opens_variable k.post ≡ is_variable ks
first-variable [] k e = cc
first-variable (x ∷ xs) k e = let same : k ≡ x = cc in ap (λ (y : Kept). opens_variable y.post) same

abbrev made : Bool → ℕ → List SegmentTerms → List Lowering → List Interval → Rates
made variable penalty gs ls is = record { variable = variable; penalty = penalty; segments = gs; lowerings = ls; penalties = is }

pub same-rates : {u v : Bool} {p q : ℕ} {gs hs : List SegmentTerms} {ls ms : List Lowering} {is js : List Interval} → u ≡ v → p ≡ q → gs ≡ hs → ls ≡ ms → is ≡ js → made u p gs ls is ≡ made v q hs ms js
same-rates {u} {v} {p} {q} {gs} {hs} {ls} {ms} {is} {js} e a b c d =
    ap (λ x. made x p gs ls is) e ∙ (ap (λ x. made v x gs ls is) a ∙ (ap (λ x. made v q x ls is) b ∙ (ap (λ x. made v q hs x is) c ∙ ap (made v q hs ms) d)))
