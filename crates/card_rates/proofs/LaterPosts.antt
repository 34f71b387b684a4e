-- Posts of later days don't count in the rates and the vintages of a day.
use Rattle.std.proofs.Common.{◌≡◌, ℕ, suc, ◌+◌, ◌<◌, ◌≤◌, max, Bool, true, false, cond, ◌&&◌, not, List, [], ◌∷◌, refl, sym, ap, ◌∙◌, arith, leb, ltb, inl, inr, ◌⊎◌, Option, Some, None}
use Rattle.std.proofs.lemmas.List.Elements.{All-nil, All-cons, All-head, All-tail}
use Rattle.std.proofs.lemmas.Bool.{cases_lt}
use Rattle.std.proofs.lemmas.Bool.Decides.{nat_tests}
use Rattle.std.specs.List.{All, filter, fold, filter_map, cons_option}
use Rattle.std.specs.Option.{option_or}
use Rattle.card_events.specs.declared.anchor.Anchor.{Anchor}
use Rattle.card_events.specs.History.{CorrectedPost, corrected, corrected_post, corrected_from, effective_day, next_segment}
use Rattle.card_events.specs.declared.kept.Kept.{Kept}
use Rattle.card_events.specs.declared.post.Post.{Post}
use Rattle.card_events.specs.declared.post.Post.TheVariants as post
use Rattle.card_events.specs.declared.post.Terms.{Terms}
use Rattle.card_model.specs.Rates.{Begun, Lowering, after_end, bears_as, bears_in, begun_of, capped, lowered_by, lowering_of, lowerings, own, period_rate, rate_on, with_penalty}
use Rattle.card_model.specs.Segments.{SegmentTerms, id_of, is_over, is_plan, is_sort, last_that, newest, opening_vintage, segment_of, segments}
use Rattle.card_model.specs.declared.segment.Sort.{Sort}
use Rattle.card_model.specs.declared.segment.Sort.TheVariants as sort

-- ---- posts that rates read stand under their own day
abbrev pub own_day : Post → ℕ → Type 0
own_day (post.Lower day c lower) on = day ≡ on
own_day (post.Notice day c rate effective) on = day ≡ on
own_day (post.Plan day k rate end after) on = day ≡ on
own_day _ on = Unit {0}

abbrev pub AreDated : List CorrectedPost → Type 0
AreDated posts = All (λ s. own_day s.post s.day) posts

post-dated : (a : Anchor) (holidays : List ℕ) (history : List Kept) (n accepted : ℕ) (p : Post) → own_day p (effective_day a holidays history n accepted p)
unfolding effective_day
post-dated a holidays history n accepted (post.Lower day c lower) = refl
post-dated a holidays history n accepted (post.Notice day c rate effective) = refl
post-dated a holidays history n accepted (post.Plan day k rate end after) = refl
post-dated a holidays history n accepted (post.Open _ _) = tt
post-dated a holidays history n accepted (post.OpenVariable _ _) = tt
post-dated a holidays history n accepted (post.Charge _ _ _) = tt
post-dated a holidays history n accepted (post.Credit _ _ _) = tt
post-dated a holidays history n accepted (post.Payment _ _ _ _) = tt
post-dated a holidays history n accepted (post.Return _ _) = tt
post-dated a holidays history n accepted post.Penalty = tt
post-dated a holidays history n accepted (post.Review _ _) = tt
post-dated a holidays history n accepted (post.Dispute _ _ _) = tt
post-dated a holidays history n accepted (post.Ack _ _) = tt
post-dated a holidays history n accepted (post.Resolve _ _ _) = tt
post-dated a holidays history n accepted (post.AskRefund _) = tt
post-dated a holidays history n accepted (post.Refund _) = tt
post-dated a holidays history n accepted (post.Amend _ _ _) = tt
post-dated a holidays history n accepted (post.Bill _) = tt

posts-dated : (a : Anchor) (holidays : List ℕ) (history : List Kept) (n id : ℕ) (ks : List Kept) → AreDated (corrected_from a holidays history n id ks)
unfolding corrected_from corrected_post
posts-dated a holidays history n id [] = All-nil (λ (s : CorrectedPost). own_day s.post s.day)
posts-dated a holidays history n id (k ∷ ks) =
    All-cons (λ (s : CorrectedPost). own_day s.post s.day) (corrected_post a holidays history n id k) _ (post-dated a holidays history n k.accepted k.post) (posts-dated a holidays history (suc n) (next_segment id k.post) ks)

pub corrected-dated : (a : Anchor) (holidays : List ℕ) (history : List Kept) → AreDated (corrected a holidays history)
corrected-dated a holidays history = posts-dated a holidays history 1 5 history

-- ---- tests
pub and_false : (b : Bool) → (b && false) ≡ false
and_false true = refl
and_false false = refl

pub no-leb : (a b : ℕ) → b < a → leb a b ≡ false
no-leb a b h = grind (arith, nat_tests)

pub yes-leb : (a b : ℕ) → a ≤ b → leb a b ≡ true
yes-leb a b h = grind (arith, nat_tests)

-- ---- Lowers
abbrev day_in : Option Lowering → ℕ
day_in None = 0
day_in (Some l) = l.day

pub lowering-day : (p : Post) (l : Lowering) (on : ℕ) → lowering_of p ≡ Some l → own_day p on → l.day ≡ on
lowering-day (post.Lower day c rate) l on e d = let b : day ≡ l.day = ap day_in e in sym b ∙ d
lowering-day (post.Open _ _) l on e d = cc
lowering-day (post.OpenVariable _ _) l on e d = cc
lowering-day (post.Charge _ _ _) l on e d = cc
lowering-day (post.Credit _ _ _) l on e d = cc
lowering-day (post.Payment _ _ _ _) l on e d = cc
lowering-day (post.Return _ _) l on e d = cc
lowering-day (post.Plan _ _ _ _ _) l on e d = cc
lowering-day (post.Notice _ _ _ _) l on e d = cc
lowering-day (post.Review _ _) l on e d = cc
lowering-day (post.Dispute _ _ _) l on e d = cc
lowering-day (post.Ack _ _) l on e d = cc
lowering-day (post.Resolve _ _ _) l on e d = cc
lowering-day (post.AskRefund _) l on e d = cc
lowering-day (post.Refund _) l on e d = cc
lowering-day (post.Amend _ _ _) l on e d = cc
lowering-day (post.Bill _) l on e d = cc
lowering-day post.Penalty l on e d = cc

later_lower : (s : Sort) (from x r : ℕ) (l : Lowering) → x < l.day → lowered_by s from x r l ≡ r
later_lower s from x r l h = rw (no-leb l.day x h, and_false (is_sort s l.sort && leb from l.day)) refl

lowers-stay : (s : Sort) (from x r : ℕ) (posts : List CorrectedPost) → AreDated posts → fold (lowered_by s from x) r (filter_map (λ s. lowering_of s.post) (filter (λ t. leb t.day x) posts)) ≡ fold (lowered_by s from x) r (filter_map (λ s. lowering_of s.post) posts)
lowers-stay s from x r [] h = refl
lowers-stay s from x r (t ∷ ts) h = by (λ q. lowers-stay s from x q ts (All-tail (λ (s : CorrectedPost). own_day s.post s.day) t ts h)) (cases_lt x t.day)
  where
    more-lowers : (o : Option Lowering) (us vs : List Lowering) → ((q : ℕ) → fold (lowered_by s from x) q us ≡ fold (lowered_by s from x) q vs) → fold (lowered_by s from x) r (cons_option o us) ≡ fold (lowered_by s from x) r (cons_option o vs)
    more-lowers None us vs e = e r
    more-lowers (Some l) us vs e = e (lowered_by s from x r l)

    less-lowers : (o : Option Lowering) (vs : List Lowering) → ((l : Lowering) → o ≡ Some l → x < l.day) → fold (lowered_by s from x) r (cons_option o vs) ≡ fold (lowered_by s from x) r vs
    less-lowers None vs e = refl
    less-lowers (Some l) vs e = ap (λ q. fold (lowered_by s from x) q vs) (later_lower s from x r l (e l refl))

    by : ((q : ℕ) → fold (lowered_by s from x) q (filter_map (λ s. lowering_of s.post) (filter (λ t. leb t.day x) ts)) ≡ fold (lowered_by s from x) q (filter_map (λ s. lowering_of s.post) ts))
        → (x < t.day) ⊎ (t.day ≤ x) → fold (lowered_by s from x) r (filter_map (λ s. lowering_of s.post) (filter (λ t. leb t.day x) (t ∷ ts))) ≡ fold (lowered_by s from x) r (filter_map (λ s. lowering_of s.post) (t ∷ ts))
    by ih (inl a) = rw (no-leb t.day x a) (ih r ∙ sym (less-lowers (lowering_of t.post) _ (λ l e. let d = lowering-day t.post l t.day e (All-head (λ (s : CorrectedPost). own_day s.post s.day) t ts h) in omega (arith, d, a))))
    by ih (inr a) = rw (yes-leb t.day x a) (more-lowers (lowering_of t.post) _ _ ih)

pub capped-stays : (s : Sort) (x : ℕ) (b : Begun) (posts : List CorrectedPost) → AreDated posts → capped (lowerings (filter (λ t. leb t.day x) posts)) s x b ≡ capped (lowerings posts) s x b
unfolding capped lowerings
capped-stays s x b posts h = lowers-stay s b.from x b.rate posts h

-- ---- the vintages
abbrev begins_of : Option SegmentTerms → ℕ
begins_of None = 0
begins_of (Some v) = v.begins

pub begins-later : (x : ℕ) (p : Post) (i n : ℕ) (v : SegmentTerms) (on : ℕ) → segment_of i n p ≡ Some v → own_day p on → x < on → x < v.begins
begins-later x (post.Notice day c rate effective) i n v on e d l = let b : day + 15 ≡ v.begins = ap begins_of e in omega (arith, d, b)
begins-later x (post.Plan day k rate end after) i n v on e d l = let b : day ≡ v.begins = ap begins_of e in omega (arith, d, b)
begins-later x (post.Open _ _) i n v on e d l = cc
begins-later x (post.OpenVariable _ _) i n v on e d l = cc
begins-later x (post.Charge _ _ _) i n v on e d l = cc
begins-later x (post.Credit _ _ _) i n v on e d l = cc
begins-later x (post.Payment _ _ _ _) i n v on e d l = cc
begins-later x (post.Return _ _) i n v on e d l = cc
begins-later x (post.Lower _ _ _) i n v on e d l = cc
begins-later x (post.Review _ _) i n v on e d l = cc
begins-later x (post.Dispute _ _ _) i n v on e d l = cc
begins-later x (post.Ack _ _) i n v on e d l = cc
begins-later x (post.Resolve _ _ _) i n v on e d l = cc
begins-later x (post.AskRefund _) i n v on e d l = cc
begins-later x (post.Refund _) i n v on e d l = cc
begins-later x (post.Amend _ _ _) i n v on e d l = cc
begins-later x (post.Bill _) i n v on e d l = cc
begins-later x post.Penalty i n v on e d l = cc

third : (a b t c : Bool) → t ≡ false → (a && b && t && c) ≡ false
third true true false c e = refl
third true false false c e = refl
third false true false c e = refl
third false false false c e = refl
third a b true c e = cc

more : (p : SegmentTerms → Bool) (o : Option SegmentTerms) (us vs : List SegmentTerms) → last_that p us ≡ last_that p vs → last_that p (cons_option o us) ≡ last_that p (cons_option o vs)
more p None us vs e = e
more p (Some v) us vs e = ap (λ q. option_or q (cond (p v) (Some v) None)) e

-- a test that no segment passes whose first day is still to come
abbrev Begins : ℕ → (SegmentTerms → Bool) → Type 0
Begins x p = (v : SegmentTerms) → x < v.begins → p v ≡ false

bears-begins : (s : Sort) (id x : ℕ) → Begins x (bears_in x s id)
bears-begins s id x v l = third (is_sort s v.sort) (leb v.id id) (leb v.begins x) (leb v.effective x) (no-leb v.begins x l)

newest-begins : (s : Sort) (x : ℕ) → Begins x (λ v. is_sort s v.sort && leb v.begins x)
newest-begins s x v l = rw (no-leb v.begins x l) (and_false (is_sort s v.sort))

last-in : (p : SegmentTerms → Bool) (x : ℕ) → Begins x p → (posts : List CorrectedPost) → AreDated posts
    → last_that p (filter_map (λ s. segment_of s.segment s.number s.post) (filter (λ t. leb t.day x) posts)) ≡ last_that p (filter_map (λ s. segment_of s.segment s.number s.post) posts)
last-in p x b [] h = refl
last-in p x b (t ∷ ts) h = by (last-in p x b ts (All-tail (λ (s : CorrectedPost). own_day s.post s.day) t ts h)) (cases_lt x t.day)
  where
    none : (q : Option SegmentTerms) → option_or q None ≡ q
    none None = refl
    none (Some v) = refl

    less : (o : Option SegmentTerms) (vs : List SegmentTerms) → ((v : SegmentTerms) → o ≡ Some v → p v ≡ false) → last_that p (cons_option o vs) ≡ last_that p vs
    less None vs e = refl
    less (Some v) vs e = rw (e v refl) (none (last_that p vs))

    by : last_that p (filter_map (λ s. segment_of s.segment s.number s.post) (filter (λ t. leb t.day x) ts)) ≡ last_that p (filter_map (λ s. segment_of s.segment s.number s.post) ts)
        → (x < t.day) ⊎ (t.day ≤ x) → last_that p (filter_map (λ s. segment_of s.segment s.number s.post) (filter (λ t. leb t.day x) (t ∷ ts))) ≡ last_that p (filter_map (λ s. segment_of s.segment s.number s.post) (t ∷ ts))
    by ih (inl a) =
        let later = λ (v : SegmentTerms) (e : segment_of t.segment t.number t.post ≡ Some v). b v (begins-later x t.post t.segment t.number v t.day e (All-head (λ (s : CorrectedPost). own_day s.post s.day) t ts h) a) in
        rw (no-leb t.day x a) (ih ∙ sym (less (segment_of t.segment t.number t.post) _ later))
    by ih (inr a) = rw (yes-leb t.day x a) (more p (segment_of t.segment t.number t.post) _ _ ih)

vintage-stays : (p : SegmentTerms → Bool) (a : Anchor) (terms : Terms) (us vs : List CorrectedPost)
    → last_that p (filter_map (λ s. segment_of s.segment s.number s.post) us) ≡ last_that p (filter_map (λ s. segment_of s.segment s.number s.post) vs) → last_that p (segments a terms us) ≡ last_that p (segments a terms vs)
unfolding segments
vintage-stays p a terms us vs e =
    let u = filter_map (λ (s : CorrectedPost). segment_of s.segment s.number s.post) us in
    let v = filter_map (λ (s : CorrectedPost). segment_of s.segment s.number s.post) vs in
    let purchase = opening_vintage 2 sort.Purchase a.opened terms.purchase in
    let cash = opening_vintage 3 sort.Cash a.opened terms.cash in
    let transfer = opening_vintage 4 sort.Transfer a.opened terms.transfer in
    more p (Some purchase) (cash ∷ transfer ∷ u) (cash ∷ transfer ∷ v) (more p (Some cash) (transfer ∷ u) (transfer ∷ v) (more p (Some transfer) u v e))

own-stays : (index : Option ℕ) (a : Anchor) (terms : Terms) (x : ℕ) (g : SegmentTerms) (posts : List CorrectedPost) → AreDated posts → own index (segments a terms (filter (λ t. leb t.day x) posts)) x g ≡ own index (segments a terms posts) x g
own-stays index a terms x g posts h =
    ap (λ q. cond (is_plan g) (record { rate = g.after; from = after_end g.ends }) (begun_of index q)) (vintage-stays (bears_in x g.sort g.id) a terms (filter (λ t. leb t.day x) posts) posts (last-in (bears_in x g.sort g.id) x (bears-begins g.sort g.id x) posts h))

-- ---- the rate
pub fold-same : {A : Type 0} (f g : ℕ → A → ℕ) → ((r : ℕ) (i : A) → f r i ≡ g r i) → (r : ℕ) (is : List A) → fold f r is ≡ fold g r is
fold-same f g e r [] = refl
fold-same f g e r (i ∷ is) = ap (λ q. fold f q is) (e r i) ∙ fold-same f g e (g r i) is

-- the rate read from all posts is that read from the posts up to the day
pub rate-stays : (index : Option ℕ) (a : Anchor) (terms : Terms) (penalties : List ℕ) (x : ℕ) (g : SegmentTerms) (posts : List CorrectedPost) → AreDated posts
    → rate_on index (lowerings (filter (λ t. leb t.day x) posts)) terms.penalty penalties (segments a terms (filter (λ t. leb t.day x) posts)) x g ≡ rate_on index (lowerings posts) terms.penalty penalties (segments a terms posts) x g
unfolding rate_on
rate-stays index a terms penalties x g posts h =
    let early = filter (λ (t : CorrectedPost). leb t.day x) posts in
    let base : capped (lowerings early) (bears_as g) x (own index (segments a terms early) x g) ≡ capped (lowerings posts) (bears_as g) x (own index (segments a terms posts) x g) =
    ap (λ b. capped (lowerings early) (bears_as g) x b) (own-stays index a terms x g posts h) ∙ capped-stays (bears_as g) x (own index (segments a terms posts) x g) posts h in
    let all : fold (with_penalty (lowerings early) terms.penalty (bears_as g) x) (capped (lowerings early) (bears_as g) x (own index (segments a terms early) x g)) penalties ≡ fold (with_penalty (lowerings posts) terms.penalty (bears_as g) x) (capped (lowerings posts) (bears_as g) x (own index (segments a terms posts) x g)) penalties =
    fold-same (with_penalty (lowerings early) terms.penalty (bears_as g) x) (with_penalty (lowerings posts) terms.penalty (bears_as g) x) (λ r i. ap (max r) (capped-stays (bears_as g) x (record { rate = terms.penalty; from = i }) posts h)) _ penalties
    ∙ ap (λ r. fold (with_penalty (lowerings posts) terms.penalty (bears_as g) x) r penalties) base in
    ap (λ q. cond (is_plan g && ltb x g.begins) 0 (cond (is_plan g && not (is_over g.ends x)) (period_rate g) q)) all

-- the newest vintage that has begun
pub newest-stays : (a : Anchor) (terms : Terms) (s : Sort) (x : ℕ) (posts : List CorrectedPost) → AreDated posts
    → newest s x (segments a terms (filter (λ t. leb t.day x) posts)) ≡ newest s x (segments a terms posts)
newest-stays a terms s x posts h =
    let p = λ (v : SegmentTerms). is_sort s v.sort && leb v.begins x in
    ap id_of (vintage-stays p a terms (filter (λ t. leb t.day x) posts) posts (last-in p x (newest-begins s x) posts h))
