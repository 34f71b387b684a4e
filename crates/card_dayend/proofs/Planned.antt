-- A deferred plan ends with a closing.
use Rattle.std.proofs.Common.{◌≡◌, ℕ, suc, ◌≤◌, true, List, [], ◌∷◌, refl, subst, Option, Some, None}
use Rattle.std.specs.List.{All, Contains, cons_option, filter_map}
use Rattle.std.proofs.lemmas.Bool.{false≢true}
use Rattle.std.proofs.lemmas.List.Elements.{All-cons, All-contains, All-head, All-nil, All-tail}
use Rattle.card_events.specs.Civil.{day_of_month}
use Rattle.card_events.specs.declared.anchor.Anchor.{Anchor}
use Rattle.card_events.specs.History.{CorrectedPost, anchor_of, corrected, corrected_from, corrected_post, next_segment, terms_of}
use Rattle.card_events.specs.declared.kept.Kept.{Kept}
use Rattle.card_events.specs.declared.post.Category.{Category}
use Rattle.card_events.specs.declared.post.Category.TheVariants as category
use Rattle.card_events.specs.declared.post.Post.{Post}
use Rattle.card_events.specs.declared.post.Post.TheVariants as post
use Rattle.card_events.specs.declared.post.Terms.{Terms}
use Rattle.card_model.specs.Refusals.{plan_days}
use Rattle.card_model.specs.Segments.{SegmentTerms, is_sort, opening_vintage, segment_of, segments, sort_of_category}
use Rattle.card_model.specs.declared.segment.Sort.TheVariants as sort
use Rattle.card_rates.specs.RateBooks.{rates_of}
use Rattle.card_daily.specs.Given.{EndsWithAClosing, Given, IsSound}

-- the end of a plan
pub record HasEnd (a : Anchor) (t : SegmentTerms) : Type 0 where
  pub end : ℕ
  pub is : t.ends ≡ Some end
  pub from : a.opened ≤ end
  pub on : day_of_month end ≡ a.close_day

-- of a Deferred
abbrev Ends : Anchor → SegmentTerms → Type 0
Ends a t = is_sort sort.Deferred t.sort ≡ true → HasEnd a t

abbrev EndsIn : Anchor → Post → Type 0
EndsIn a p = (first end : ℕ) → plan_days p ≡ Some (first, end) → (a.opened ≤ end) × (day_of_month end ≡ a.close_day)

some-same : {A : Type 0} (x y : A) → Some x ≡ Some y → x ≡ y
some-same x y e = cc

no-deferred : (c : Category) → is_sort sort.Deferred (sort_of_category c) ≡ true → ⊥
no-deferred category.Purchase e = cc
no-deferred category.Cash e = cc
no-deferred category.Transfer e = cc

of-post : (a : Anchor) (i n : ℕ) (p : Post) (t : SegmentTerms) → EndsIn a p → segment_of i n p ≡ Some t → Ends a t
of-post a i n (post.Plan d k rate end after) t h e =
    subst (Ends a) (some-same _ t e) (λ sorted. let ends = h d end refl in record { end = end; is = refl; from = ends.0; on = ends.1 })
of-post a i n (post.Notice d c rate effective) t h e = subst (Ends a) (some-same _ t e) (λ sorted. absurd (no-deferred c sorted))
of-post a i n (post.Open _ _) t h e = cc
of-post a i n (post.OpenVariable _ _) t h e = cc
of-post a i n (post.Charge _ _ _) t h e = cc
of-post a i n (post.Credit _ _ _) t h e = cc
of-post a i n (post.Payment _ _ _ _) t h e = cc
of-post a i n (post.Return _ _) t h e = cc
of-post a i n (post.Lower _ _ _) t h e = cc
of-post a i n post.Penalty t h e = cc
of-post a i n (post.Review _ _) t h e = cc
of-post a i n (post.Dispute _ _ _) t h e = cc
of-post a i n (post.Ack _ _) t h e = cc
of-post a i n (post.Resolve _ _ _) t h e = cc
of-post a i n (post.AskRefund _) t h e = cc
of-post a i n (post.Refund _) t h e = cc
of-post a i n (post.Amend _ _ _) t h e = cc
of-post a i n (post.Bill _) t h e = cc

abbrev PostEnds : Anchor → CorrectedPost → Type 0
PostEnds a p = EndsIn a p.post

with-one : (a : Anchor) (o : Option SegmentTerms) (ts : List SegmentTerms) → ((t : SegmentTerms) → o ≡ Some t → Ends a t) → All (Ends a) ts → All (Ends a) (cons_option o ts)
with-one a None ts h rest = rest
with-one a (Some t) ts h rest = All-cons (Ends a) t ts (h t refl) rest

of-posts : (a : Anchor) (ps : List CorrectedPost) → All (PostEnds a) ps → All (Ends a) (filter_map (λ p. segment_of p.segment p.number p.post) ps)
of-posts a [] h = All-nil (Ends a)
of-posts a (p ∷ ps) h =
    with-one a (segment_of p.segment p.number p.post) (filter_map (λ p. segment_of p.segment p.number p.post) ps)
    (λ t e. of-post a p.segment p.number p.post t (All-head (PostEnds a) p ps h) e) (of-posts a ps (All-tail (PostEnds a) p ps h))

corrected-ends : (b a : Anchor) (holidays : List ℕ) (history : List Kept) (n segment : ℕ) (ks : List Kept) → All (EndsWithAClosing b) ks → All (PostEnds b) (corrected_from a holidays history n segment ks)
unfolding corrected_from corrected_post
corrected-ends b a holidays history n segment [] h = All-nil (PostEnds b)
corrected-ends b a holidays history n segment (k ∷ ks) h =
    All-cons (PostEnds b) _ _ (here (All-head (EndsWithAClosing b) k ks h)) (corrected-ends b a holidays history (suc n) (next_segment segment k.post) ks (All-tail (EndsWithAClosing b) k ks h))
  where
    here : EndsWithAClosing b k → EndsIn b k.post
    here e = e

all-end : (a : Anchor) (terms : Terms) (ps : List CorrectedPost) → All (PostEnds a) ps → All (Ends a) (segments a terms ps)
unfolding segments
all-end a terms ps h =
    let added = filter_map (λ p. segment_of p.segment p.number p.post) ps in
    let second = opening_vintage 3 sort.Cash a.opened terms.cash in
    let third = opening_vintage 4 sort.Transfer a.opened terms.transfer in
    All-cons (Ends a) (opening_vintage 2 sort.Purchase a.opened terms.purchase) (second ∷ third ∷ added) (λ e. absurd (false≢true e))
    (All-cons (Ends a) second (third ∷ added) (λ e. absurd (false≢true e)) (All-cons (Ends a) third added (λ e. absurd (false≢true e)) (of-posts a ps h)))

pub ends-of : (g : Given) (t : SegmentTerms) → IsSound g → Contains (rates_of g.shared.holidays g.history []).segments t → is_sort sort.Deferred t.sort ≡ true → HasEnd (anchor_of g.history) t
ends-of g t s there sorted =
    let a = anchor_of g.history in
    let ts = (rates_of g.shared.holidays g.history []).segments in
    All-contains (Ends a) ts t
    (all-end a (terms_of g.history) (corrected a g.shared.holidays g.history) (corrected-ends a a g.shared.holidays g.history 1 5 g.history s.plans)) there sorted
