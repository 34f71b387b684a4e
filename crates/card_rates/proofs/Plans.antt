-- The segment of a plan, among the segments by their numbers.
use Rattle.std.proofs.Common.{◌≡◌, ℕ, suc, ◌+◌, ◌<◌, ◌≤◌, drop, length, get_or, arith, Bool, true, false, cond, ◌&&◌, ◌==◌, nat_le, List, [], ◌∷◌, map, refl, sym, ap, ◌∙◌, subst, Option, Some, None}
use Rattle.std.specs.List.{cons_option, filter, filter_map, find}
use Rattle.std.proofs.lemmas.List.{at_drop_all, at_drop_more}
use Rattle.std.proofs.lemmas.List.Elements.{All-head, All-tail}
use Rattle.card_events.specs.declared.anchor.Anchor.{Anchor}
use Rattle.card_events.specs.History.{CorrectedPost, anchor_of, corrected, is_folded, terms_of}
use Rattle.card_events.specs.SharedRows.{SharedRows}
use Rattle.card_events.specs.declared.kept.Kept.{Kept}
use Rattle.card_events.specs.declared.post.Category.{Category}
use Rattle.card_events.specs.declared.post.Category.TheVariants as category
use Rattle.card_events.specs.declared.post.Post.{Post}
use Rattle.card_events.specs.declared.post.Post.TheVariants as post
use Rattle.card_events.specs.declared.post.Terms.{Terms}
use Rattle.card_model.specs.Cycles.{IssuedRow}
use Rattle.card_model.specs.Segments.{SegmentTerms, id_of, is_plan, kept_segment, opening_vintage, plan_segment, segment_of, segments, unbilled}
use Rattle.card_model.specs.declared.segment.Segment.{Segment}
use Rattle.card_model.specs.declared.segment.Sort.TheVariants as sort
use Rattle.card_rates.proofs.DayLaws.{no-segment}
use Rattle.card_rates.specs.Laws.{segments_on}
use Rattle.card_rates.specs.RateBooks.{AreByNumber}
use Rattle.card_rates.proofs.Added as rates
use Rattle.card_rates.proofs.LaterPosts.{AreDated, corrected-dated, own_day}
use Rattle.card_rates.specs.Segments.{account_segments, is_plan_of, plan_from}

-- ---- tests
no-plan : (b c : Bool) → (b && false && c) ≡ false
no-plan true c = refl
no-plan false c = refl

past-plan : (b : Bool) → (b && false) ≡ false
past-plan true = refl
past-plan false = refl

known : (x y z : Bool) → (y ≡ true → z ≡ true) → (x && y && z) ≡ (x && y)
known true true z h = h refl
known true false z h = refl
known false true z h = refl
known false false z h = refl

unknown : (x y z : Bool) → (y ≡ true → z ≡ false) → (x && y && z) ≡ false
unknown true true z h = h refl
unknown true false z h = refl
unknown false true z h = refl
unknown false false z h = refl

-- the plan of a post
abbrev test : ℕ → SegmentTerms → Bool
test n g = (g.post == n) && is_plan g

-- where it has begun
abbrev begun : ℕ → ℕ → SegmentTerms → Bool
begun n today g = (g.post == n) && is_plan g && nat_le g.begins today

-- ---- places are numbers
skip : (n today place : ℕ) (s : Segment) (ss : List Segment) → is_plan_of n today s ≡ false → plan_from n today place (s ∷ ss) ≡ plan_from n today (suc place) ss
unfolding plan_from
skip n today place s ss e = rw e refl

by-number : (n today place : ℕ) (gs : List SegmentTerms) → AreByNumber place gs → plan_from n today place (map kept_segment gs) ≡ id_of (find (begun n today) gs)
unfolding plan_from AreByNumber
by-number n today place [] h = refl
by-number n today place (g ∷ gs) h = by (begun n today g) (by-number n today (suc place) gs h.1)
  where
    by : (t : Bool) → plan_from n today (suc place) (map kept_segment gs) ≡ id_of (find (begun n today) gs) → cond t place (plan_from n today (suc place) (map kept_segment gs)) ≡ id_of (cond t (Some g) (find (begun n today) gs))
    by true ih = sym h.0
    by false ih = ih

-- ---- what the fold of a day sees
abbrev added : CorrectedPost → Option SegmentTerms
added p = segment_of p.segment p.number p.post

abbrev begins_of : Option SegmentTerms → ℕ
begins_of None = 0
begins_of (Some g) = g.begins

abbrev plans : Option SegmentTerms → Bool
plans None = false
plans (Some g) = is_plan g

no-notice : (s n day rate effective : ℕ) (c : Category) → plans (segment_of s n (post.Notice day c rate effective)) ≡ false
no-notice s n day rate effective category.Purchase = refl
no-notice s n day rate effective category.Cash = refl
no-notice s n day rate effective category.Transfer = refl

-- a plan begins on the day of its post
plan-day : (s n : ℕ) (p : Post) (g : SegmentTerms) (day : ℕ) → segment_of s n p ≡ Some g → own_day p day → is_plan g ≡ true → g.begins ≡ day
plan-day s n (post.Plan d k r e f) g day is o h = let same : d ≡ g.begins = ap begins_of is in sym same ∙ o
plan-day s n (post.Notice d c r e) g day is o h =
    let none : is_plan g ≡ false = sym (ap plans is) ∙ no-notice s n d r e c in
    let no : true ≡ false = sym h ∙ none in
    absurd (cc)
plan-day s n (post.Open d t) g day is o h = cc
plan-day s n (post.OpenVariable d t) g day is o h = cc
plan-day s n (post.Charge d p c) g day is o h = cc
plan-day s n (post.Credit d p c) g day is o h = cc
plan-day s n (post.Payment d m y c) g day is o h = cc
plan-day s n (post.Return d t) g day is o h = cc
plan-day s n (post.Lower d c r) g day is o h = cc
plan-day s n post.Penalty g day is o h = cc
plan-day s n (post.Review d f) g day is o h = cc
plan-day s n (post.Dispute d t c) g day is o h = cc
plan-day s n (post.Ack d t) g day is o h = cc
plan-day s n (post.Resolve d t c) g day is o h = cc
plan-day s n (post.AskRefund d) g day is o h = cc
plan-day s n (post.Refund c) g day is o h = cc
plan-day s n (post.Amend t d c) g day is o h = cc
plan-day s n (post.Bill c) g day is o h = cc

-- the posts that the fold of a day sees
abbrev seen : ℕ → List CorrectedPost → List CorrectedPost
seen today ps = filter (λ p. nat_le p.day today) (filter (λ p. is_folded p.post) ps)

more : (n today : ℕ) (o : Option SegmentTerms) (us vs : List SegmentTerms) → ((g : SegmentTerms) → o ≡ Some g → begun n today g ≡ test n g) → find (begun n today) us ≡ find (test n) vs → find (begun n today) (cons_option o us) ≡ find (test n) (cons_option o vs)
more n today None us vs h e = e
more n today (Some g) us vs h e = rw (h g refl) (ap (cond (test n g) (Some g)) e)

less : (n today : ℕ) (o : Option SegmentTerms) (us : List SegmentTerms) → ((g : SegmentTerms) → o ≡ Some g → begun n today g ≡ false) → find (begun n today) (cons_option o us) ≡ find (begun n today) us
less n today None us h = refl
less n today (Some g) us h = rw (h g refl) refl

find-seen : (n today : ℕ) (ps : List CorrectedPost) → AreDated ps → find (begun n today) (filter_map added ps) ≡ find (test n) (filter_map added (seen today ps))
find-seen n today [] h = refl
find-seen n today (p ∷ ps) h = by (is_folded p.post) (nat_le p.day today) refl refl (find-seen n today ps (All-tail (λ (s : CorrectedPost). own_day s.post s.day) p ps h))
  where
    day : (g : SegmentTerms) → added p ≡ Some g → is_plan g ≡ true → g.begins ≡ p.day
    day g e f = plan-day p.segment p.number p.post g p.day e (All-head (λ (s : CorrectedPost). own_day s.post s.day) p ps h) f

    by : (t u : Bool) → is_folded p.post ≡ t → nat_le p.day today ≡ u → find (begun n today) (filter_map added ps) ≡ find (test n) (filter_map added (seen today ps))
        → find (begun n today) (cons_option (added p) (filter_map added ps)) ≡ find (test n) (filter_map added (filter (λ q. nat_le q.day today) (cond t (p ∷ filter (λ q. is_folded q.post) ps) (filter (λ q. is_folded q.post) ps))))
    by false u e f ih = rw (no-segment p.segment p.number p.post e) ih
    by true true e f ih =
        rw f (more n today (added p) (filter_map added ps) (filter_map added (seen today ps)) (λ g is. known (g.post == n) (is_plan g) (nat_le g.begins today) (λ q. ap (λ d. nat_le d today) (day g is q) ∙ f)) ih)
    by true false e f ih =
        rw f (less n today (added p) (filter_map added ps) (λ g is. unknown (g.post == n) (is_plan g) (nat_le g.begins today) (λ q. ap (λ d. nat_le d today) (day g is q) ∙ f)) ∙ ih)

-- the opening vintages are no plans
first : (n today : ℕ) (v : SegmentTerms) (us vs : List SegmentTerms) → is_plan v ≡ false → find (begun n today) us ≡ find (test n) vs → find (begun n today) (v ∷ us) ≡ find (test n) (v ∷ vs)
first n today v us vs e h =
    let late : begun n today v ≡ false = unknown (v.post == n) (is_plan v) (nat_le v.begins today) (λ q. let no : true ≡ false = sym q ∙ e in absurd (cc)) in
    let none : test n v ≡ false = ap (λ b. (v.post == n) && b) e ∙ past-plan (v.post == n) in
    rw (late, none) h

segments-seen : (n today : ℕ) (a : Anchor) (terms : Terms) (ps : List CorrectedPost) → AreDated ps → find (begun n today) (segments a terms ps) ≡ find (test n) (segments a terms (seen today ps))
unfolding segments
segments-seen n today a terms ps h =
    let us = filter_map added ps in
    let vs = filter_map added (seen today ps) in
    let cash = opening_vintage 3 sort.Cash a.opened terms.cash in
    let transfer = opening_vintage 4 sort.Transfer a.opened terms.transfer in
    first n today (opening_vintage 2 sort.Purchase a.opened terms.purchase) (cash ∷ transfer ∷ us) (cash ∷ transfer ∷ vs) refl
    (first n today cash (transfer ∷ us) (transfer ∷ vs) refl (first n today transfer us vs refl (find-seen n today ps h)))

-- ---- the whole
pub plan-is : (n today : ℕ) (history : List Kept) (issued : List IssuedRow) (shared : SharedRows) → plan_from n today 0 (account_segments shared.holidays history) ≡ plan_segment n (segments_on history issued shared today)
plan-is n today history issued shared =
    let a = anchor_of history in
    let terms = terms_of history in
    let every = corrected a shared.holidays history in
    let gs = segments a terms every in
    let numbers : AreByNumber 2 gs = subst (AreByNumber 2) (sym (rates.segments-are a terms shared.holidays history)) (rates.all-by-number a.opened terms history) in
    skip n today 0 (unbilled sort.Credit a.opened) (unbilled sort.Held a.opened ∷ map kept_segment gs) (no-plan (0 == n) (nat_le a.opened today))
    ∙ (skip n today 1 (unbilled sort.Held a.opened) (map kept_segment gs) (no-plan (0 == n) (nat_le a.opened today))
    ∙ (by-number n today 2 gs numbers ∙ ap id_of (segments-seen n today a terms every (corrected-dated a shared.holidays history))))

-- ---- one segment after the other
hit : (n today i : ℕ) (s : Segment) (ss : List Segment) → is_plan_of n today s ≡ true → plan_from n today i (s ∷ ss) ≡ i
unfolding plan_from
hit n today i s ss e = rw e refl

nothing : (n today i : ℕ) → plan_from n today i [] ≡ 2
unfolding plan_from
nothing n today i = refl

pub passes : (n today i : ℕ) (ss : List Segment) (s : Segment) → i < length ss → s ≡ get_or ss i s → is_plan_of n today s ≡ true → plan_from n today i (drop i ss) ≡ i
passes n today i ss s l is e =
    at_drop_more (plan_from n today i) ss i s l ∙ (ap (λ x. plan_from n today i (x ∷ drop (i + 1) ss)) (sym is) ∙ hit n today i s (drop (i + 1) ss) e)

pub fails : (n today i : ℕ) (ss : List Segment) (s : Segment) → i < length ss → s ≡ get_or ss i s → is_plan_of n today s ≡ false → plan_from n today i (drop i ss) ≡ plan_from n today (i + 1) (drop (i + 1) ss)
fails n today i ss s l is e =
    let one : suc i ≡ i + 1 = omega arith in
    at_drop_more (plan_from n today i) ss i s l
    ∙ (ap (λ x. plan_from n today i (x ∷ drop (i + 1) ss)) (sym is) ∙ (skip n today i s (drop (i + 1) ss) e ∙ ap (λ k. plan_from n today k (drop (i + 1) ss)) one))

pub ends : (n today i : ℕ) (ss : List Segment) → length ss ≤ i → plan_from n today i (drop i ss) ≡ 2
ends n today i ss l = at_drop_all (plan_from n today i) ss i l ∙ nothing n today i
