-- What is read from all posts is what is read from those up to the day.
use Rattle.std.proofs.Common.{◌+◌, length, ◌≡◌, ℕ, ◌≤◌, ◌<◌, Bool, true, false, cond, ◌&&◌, not, List, [], ◌∷◌, refl, sym, ap, ◌∙◌, subst, leb, arith, Option, Some, None}
use Rattle.std.proofs.lemmas.Bool.Decides.{nat_tests}
use Rattle.std.proofs.lemmas.List.Elements.{All-cons, All-contains, All-contains_itself, All-filter, All-head, All-tail, All-weaker}
use Rattle.std.specs.List.{All, Contains, cons_option, filter, filter_map}
use Rattle.card_events.specs.declared.anchor.Anchor.{Anchor}
use Rattle.card_events.specs.History.{CorrectedPost, anchor_of, corrected, folded, is_folded, is_variable, terms_of}
use Rattle.std.specs.Prelude.{unwrap_or}
use Rattle.card_model.proofs.IndexDays.{index-up_to}
use Rattle.card_events.specs.SharedRows.{IndexRow, SharedRows}
use Rattle.card_events.specs.declared.kept.Kept.{Kept}
use Rattle.card_events.specs.declared.post.Post.{Post}
use Rattle.card_events.specs.declared.post.Post.TheVariants as post
use Rattle.card_events.specs.declared.post.Terms.{Terms}
use Rattle.card_model.specs.Folds.{book}
use Rattle.card_model.specs.Rates.{accrual_rate, index_for, index_on, lowering_of, lowerings, rate_on, starts}
use Rattle.card_model.specs.Segments.{SegmentTerms, is_over, is_sort, newest, opening_vintage, segment_of, segments}
use Rattle.card_model.specs.declared.segment.Sort.TheVariants as sort
use Rattle.card_model.proofs.Past.{filter_implied}
use Rattle.card_rates.specs.Laws.{AccrualsAreOfTheDay, RatesOfADay, RatesOfALaterBook, RatesOfAnyBook, SegmentsAreByNumber, SegmentsAreThere, SegmentsOfADay, SegmentsStay, VintagesAreOfTheDay, VintagesAreThere, seen_in, segments_on}
use Rattle.card_rates.specs.RateBooks.{AreByNumber, rates_of}
use Rattle.card_rates.proofs.Added.{all-by-number, segments-are}
use Rattle.card_rates.proofs.ByNumber.{last-below, number-above, number-below}
use Rattle.card_rates.proofs.LaterPosts.{AreDated, begins-later, corrected-dated, newest-stays, no-leb, own_day, rate-stays}
use Rattle.card_rates.proofs.Penalties.{book-starts}

-- ---- posts that the fold leaves out add nothing
quiet-filter : {A B : Type 0} (p : A → Bool) (f : A → Option B) → ((x : A) → p x ≡ false → f x ≡ None) → (xs : List A) → filter_map f (filter p xs) ≡ filter_map f xs
quiet-filter p f h [] = refl
quiet-filter {A} {B} p f h (x ∷ xs) = by (p x) refl (quiet-filter p f h xs)
  where
    by : (t : Bool) → p x ≡ t → filter_map f (filter p xs) ≡ filter_map f xs → filter_map f (cond t (x ∷ filter p xs) (filter p xs)) ≡ cons_option (f x) (filter_map f xs)
    by true e ih = ap (cons_option (f x)) ih
    by false e ih = rw (h x e) ih

pub no-segment : (s n : ℕ) (p : Post) → is_folded p ≡ false → segment_of s n p ≡ None
no-segment s n (post.Plan d k r e f) h = cc
no-segment s n (post.Notice d c r e) h = cc
no-segment s n (post.Open d t) h = refl
no-segment s n (post.OpenVariable d t) h = refl
no-segment s n (post.Charge d p c) h = refl
no-segment s n (post.Credit d p c) h = refl
no-segment s n (post.Payment d m y c) h = refl
no-segment s n (post.Return d t) h = refl
no-segment s n (post.Lower d c r) h = refl
no-segment s n post.Penalty h = refl
no-segment s n (post.Review d f) h = refl
no-segment s n (post.Dispute d t c) h = refl
no-segment s n (post.Ack d t) h = refl
no-segment s n (post.Resolve d t c) h = refl
no-segment s n (post.AskRefund d) h = refl
no-segment s n (post.Refund c) h = refl
no-segment s n (post.Amend t d c) h = refl
no-segment s n (post.Bill c) h = refl

no-lowering : (p : Post) → is_folded p ≡ false → lowering_of p ≡ None
no-lowering (post.Lower d c r) h = cc
no-lowering (post.Plan d k r e f) h = refl
no-lowering (post.Notice d c r e) h = refl
no-lowering (post.Open d t) h = refl
no-lowering (post.OpenVariable d t) h = refl
no-lowering (post.Charge d p c) h = refl
no-lowering (post.Credit d p c) h = refl
no-lowering (post.Payment d m y c) h = refl
no-lowering (post.Return d t) h = refl
no-lowering post.Penalty h = refl
no-lowering (post.Review d f) h = refl
no-lowering (post.Dispute d t c) h = refl
no-lowering (post.Ack d t) h = refl
no-lowering (post.Resolve d t c) h = refl
no-lowering (post.AskRefund d) h = refl
no-lowering (post.Refund c) h = refl
no-lowering (post.Amend t d c) h = refl
no-lowering (post.Bill c) h = refl

abbrev added : CorrectedPost → Option SegmentTerms
added p = segment_of p.segment p.number p.post

folded-segments : (a : Anchor) (terms : Terms) (ps : List CorrectedPost) → segments a terms (filter (λ p. is_folded p.post) ps) ≡ segments a terms ps
unfolding segments
folded-segments a terms ps =
    ap (λ (gs : List SegmentTerms). opening_vintage 2 sort.Purchase a.opened terms.purchase ∷ opening_vintage 3 sort.Cash a.opened terms.cash ∷ opening_vintage 4 sort.Transfer a.opened terms.transfer ∷ gs)
    (quiet-filter (λ (p : CorrectedPost). is_folded p.post) added (λ p h. no-segment p.segment p.number p.post h) ps)

folded-lowerings : (ps : List CorrectedPost) → lowerings (filter (λ p. is_folded p.post) ps) ≡ lowerings ps
unfolding lowerings
folded-lowerings ps = quiet-filter (λ (p : CorrectedPost). is_folded p.post) (λ p. lowering_of p.post) (λ p h. no-lowering p.post h) ps

-- ---- days
within-later : (n x y : ℕ) → x ≤ y → leb n x ≡ true → leb n y ≡ true
within-later n x y h e = grind (arith, nat_tests)

folded-dated : (history : List Kept) (shared : SharedRows) → AreDated (folded (anchor_of history) shared.holidays history)
folded-dated history shared =
    All-filter (λ (p : CorrectedPost). is_folded p.post) (λ (p : CorrectedPost). own_day p.post p.day) _ (corrected-dated (anchor_of history) shared.holidays history)

seen-dated : (history : List Kept) (shared : SharedRows) (y : ℕ) → AreDated (filter (λ p. leb p.day y) (folded (anchor_of history) shared.holidays history))
seen-dated history shared y = All-filter (λ (p : CorrectedPost). leb p.day y) (λ (p : CorrectedPost). own_day p.post p.day) _ (folded-dated history shared)

seen-within : (history : List Kept) (shared : SharedRows) (x y : ℕ) → x ≤ y
    → filter (λ p. leb p.day x) (filter (λ p. leb p.day y) (folded (anchor_of history) shared.holidays history)) ≡ filter (λ p. leb p.day x) (folded (anchor_of history) shared.holidays history)
seen-within history shared x y l = filter_implied (λ (p : CorrectedPost). leb p.day x) (λ p. leb p.day y) (λ p. within-later p.day x y l) (folded (anchor_of history) shared.holidays history)

-- ---- rates
-- the index of a day is that of the rows which this or a later day sees
pub index-seen : (variable : Bool) (rows : List IndexRow) (day later : ℕ) → day ≤ later → index_for variable (filter (λ r. leb r.day later) rows) day ≡ index_for variable rows day
index-seen false rows day later l = refl
index-seen true rows day later l = ap (λ o. Some (unwrap_or o 0)) (index-up_to day later rows l)

-- rows that give a day one index give it one to follow
pub same-index : (variable : Bool) (rows others : List IndexRow) (day : ℕ) → index_on rows day ≡ index_on others day → index_for variable rows day ≡ index_for variable others day
same-index false rows others day e = refl
same-index true rows others day e = ap (λ o. Some (unwrap_or o 0)) e

pub rates_any : RatesOfAnyBook
rates_any history issued shared b x y g l =
    let a = anchor_of history in
    let terms = terms_of history in
    let began = starts x b.penalties in
    let every = corrected a shared.holidays history in
    let all = folded a shared.holidays history in
    let late = filter (λ (p : CorrectedPost). leb p.day y) all in
    let index = index_for (is_variable history) shared.index x in
    ap (λ ls. rate_on index ls terms.penalty began (segments a terms every) x g) (sym (folded-lowerings every))
    ∙ (ap (λ gs. rate_on index (lowerings all) terms.penalty began gs x g) (sym (folded-segments a terms every))
    ∙ (sym (rate-stays index a terms began x g all (folded-dated history shared))
    ∙ (ap (λ ps. rate_on index (lowerings ps) terms.penalty began (segments a terms ps) x g) (sym (seen-within history shared x y l))
    ∙ (rate-stays index a terms began x g late (seen-dated history shared y)
    ∙ ap (λ i. rate_on i (lowerings late) terms.penalty began (segments a terms late) x g) (sym (index-seen (is_variable history) shared.index x y l))))))

pub rates_later : RatesOfALaterBook
rates_later history issued shared x y g l =
    let seen = seen_in history issued shared x in
    let index = index_for (is_variable history) seen.index x in
    rates_any history issued shared (book history issued shared y) x x g (omega arith)
    ∙ ap (λ (began : List ℕ). rate_on index (lowerings seen.posts) (terms_of history).penalty began (segments_on history issued shared x) x g) (book-starts history issued shared x y l)

pub rates_of_a_day : RatesOfADay
rates_of_a_day = record { any = rates_any; later = rates_later }

-- ---- vintages
vintages : VintagesAreOfTheDay
vintages history issued shared x y s l =
    let a = anchor_of history in
    let terms = terms_of history in
    let every = corrected a shared.holidays history in
    let all = folded a shared.holidays history in
    let late = filter (λ (p : CorrectedPost). leb p.day y) all in
    ap (newest s x) (sym (folded-segments a terms every))
    ∙ (sym (newest-stays a terms s x all (folded-dated history shared))
    ∙ (ap (λ ps. newest s x (segments a terms ps)) (sym (seen-within history shared x y l))
    ∙ newest-stays a terms s x late (seen-dated history shared y)))

-- ---- segments
one-more : (P : SegmentTerms → Type 0) (o : Option SegmentTerms) (us vs : List SegmentTerms) → (All P us → All P vs) → All P (cons_option o us) → All P (cons_option o vs)
one-more P None us vs f h = f h
one-more P (Some g) us vs f h = All-cons P g vs (All-head P g us h) (f (All-tail P g us h))

one-less : (P : SegmentTerms → Type 0) (o : Option SegmentTerms) (us : List SegmentTerms) → All P (cons_option o us) → All P us
one-less P None us h = h
one-less P (Some g) us h = All-tail P g us h

-- what holds of each segment that posts add holds of each that some of them add
all-fewer : (P : SegmentTerms → Type 0) (p : CorrectedPost → Bool) (ps : List CorrectedPost) → All P (filter_map added ps) → All P (filter_map added (filter p ps))
all-fewer P p [] h = h
all-fewer P p (x ∷ xs) h = by (p x) (all-fewer P p xs)
  where
    by : (t : Bool) → (All P (filter_map added xs) → All P (filter_map added (filter p xs))) → All P (filter_map added (cond t (x ∷ filter p xs) (filter p xs)))
    by true ih = one-more P (added x) (filter_map added xs) (filter_map added (filter p xs)) ih h
    by false ih = ih (one-less P (added x) (filter_map added xs) h)

-- and of each that all of them add, where it holds of what the others add
all-back : (P : SegmentTerms → Type 0) (p : CorrectedPost → Bool) → ((x : CorrectedPost) (g : SegmentTerms) → own_day x.post x.day → p x ≡ false → added x ≡ Some g → P g)
    → (ps : List CorrectedPost) → AreDated ps → All P (filter_map added (filter p ps)) → All P (filter_map added ps)
all-back P p f [] d h = h
all-back P p f (x ∷ xs) d h = by (p x) refl (all-back P p f xs (All-tail (λ (s : CorrectedPost). own_day s.post s.day) x xs d)) h
  where
    new : (o : Option SegmentTerms) → added x ≡ o → p x ≡ false → All P (filter_map added xs) → All P (cons_option o (filter_map added xs))
    new None e t h = h
    new (Some g) e t h = All-cons P g _ (f x g (All-head (λ (s : CorrectedPost). own_day s.post s.day) x xs d) t e) h

    by : (t : Bool) → p x ≡ t → (All P (filter_map added (filter p xs)) → All P (filter_map added xs)) → All P (filter_map added (cond t (x ∷ filter p xs) (filter p xs)))
        → All P (filter_map added (x ∷ xs))
    by true e ih h = one-more P (added x) (filter_map added (filter p xs)) (filter_map added xs) ih h
    by false e ih h = new (added x) refl e (ih h)

-- beside the opening vintages
with-opening : (P : SegmentTerms → Type 0) (x y z : SegmentTerms) (us vs : List SegmentTerms) → (All P us → All P vs) → All P (x ∷ y ∷ z ∷ us) → All P (x ∷ y ∷ z ∷ vs)
with-opening P x y z us vs f h =
    one-more P (Some x) (y ∷ z ∷ us) (y ∷ z ∷ vs) (one-more P (Some y) (z ∷ us) (z ∷ vs) (one-more P (Some z) us vs f)) h

segments-fewer : (P : SegmentTerms → Type 0) (a : Anchor) (terms : Terms) (p : CorrectedPost → Bool) (ps : List CorrectedPost) → All P (segments a terms ps) → All P (segments a terms (filter p ps))
unfolding segments
segments-fewer P a terms p ps h =
    with-opening P (opening_vintage 2 sort.Purchase a.opened terms.purchase) (opening_vintage 3 sort.Cash a.opened terms.cash) (opening_vintage 4 sort.Transfer a.opened terms.transfer)
    (filter_map added ps) (filter_map added (filter p ps)) (all-fewer P p ps) h

segments-back : (P : SegmentTerms → Type 0) (a : Anchor) (terms : Terms) (p : CorrectedPost → Bool) (ps : List CorrectedPost)
    → ((x : CorrectedPost) (g : SegmentTerms) → own_day x.post x.day → p x ≡ false → added x ≡ Some g → P g) → AreDated ps → All P (segments a terms (filter p ps)) → All P (segments a terms ps)
unfolding segments
segments-back P a terms p ps f d h =
    with-opening P (opening_vintage 2 sort.Purchase a.opened terms.purchase) (opening_vintage 3 sort.Cash a.opened terms.cash) (opening_vintage 4 sort.Transfer a.opened terms.transfer)
    (filter_map added (filter p ps)) (filter_map added ps) (all-back P p f ps d) h

stay : SegmentsStay
stay history issued shared x g c =
    let a = anchor_of history in
    let terms = terms_of history in
    let every = corrected a shared.holidays history in
    let all = folded a shared.holidays history in
    let IsThere = Contains (segments a terms every) in
    All-contains IsThere (segments_on history issued shared x) g
    (segments-fewer IsThere a terms (λ (p : CorrectedPost). leb p.day x) all (segments-fewer IsThere a terms (λ (p : CorrectedPost). is_folded p.post) every (All-contains_itself (segments a terms every)))) c

idle : (x rate : ℕ) (g : SegmentTerms) → x < g.begins → accrual_rate x g ≡ Some rate → ⊥
idle x rate g l e = by (is_sort sort.Deferred g.sort) (leb g.begins x) (not (is_over g.ends x)) (no-leb g.begins x l) e
  where
    by : (s t u : Bool) → t ≡ false → cond (s && t && u) (Some g.rate) None ≡ Some rate → ⊥
    by true true u h e = cc
    by true false u h e = cc
    by false t u h e = cc

accruals : AccrualsAreOfTheDay
accruals history issued shared x rate g c e =
    let a = anchor_of history in
    let terms = terms_of history in
    let every = corrected a shared.holidays history in
    let all = folded a shared.holidays history in
    let seen = segments_on history issued shared x in
    let P = λ (v : SegmentTerms). accrual_rate x v ≡ Some rate → Contains seen v in
    let today : All P seen = All-weaker (Contains seen) P (λ v h i. h) seen (All-contains_itself seen) in
    let later = λ (p : CorrectedPost) (v : SegmentTerms) (d : own_day p.post p.day) (t : leb p.day x ≡ false) (i : added p ≡ Some v) (r : accrual_rate x v ≡ Some rate).
    absurd (idle x rate v (begins-later x p.post p.segment p.number v p.day i d (past p.day x t)) r) in
    let left = λ (p : CorrectedPost) (v : SegmentTerms) (d : own_day p.post p.day) (t : is_folded p.post ≡ false) (i : added p ≡ Some v) (r : accrual_rate x v ≡ Some rate).
    absurd (none v (sym (no-segment p.segment p.number p.post t) ∙ i)) in
    let back = segments-back P a terms (λ (p : CorrectedPost). leb p.day x) all later (folded-dated history shared) today in
    let whole = segments-back P a terms (λ (p : CorrectedPost). is_folded p.post) every left (corrected-dated a shared.holidays history) back in
    All-contains P (segments a terms every) g whole c e
  where
    past : (n y : ℕ) → leb n y ≡ false → y < n
    past n y h = grind (arith, nat_tests)

    none : (v : SegmentTerms) → None ≡ Some v → ⊥
    none v e = cc

length-segments : (a : Anchor) (terms : Terms) (ps : List CorrectedPost) → 3 ≤ length (segments a terms ps)
unfolding segments
length-segments a terms ps = omega arith

by_number : SegmentsAreByNumber
by_number holidays history =
    subst (AreByNumber 2) (sym (segments-are (anchor_of history) (terms_of history) holidays history)) (all-by-number (anchor_of history).opened (terms_of history) history)

there : SegmentsAreThere
there holidays history g c =
    let all = (rates_of holidays history []).segments in
    let below = number-below 2 all g (by_number holidays history) c in
    (number-above 2 all g (by_number holidays history) c, omega (arith, below))

vintages-there : VintagesAreThere
vintages-there holidays history s x =
    let all = (rates_of holidays history []).segments in
    let some = length-segments (anchor_of history) (terms_of history) (corrected (anchor_of history) holidays history) in
    last-below (λ (g : SegmentTerms). is_sort s g.sort && leb g.begins x) (length all + 2) 2 all (by_number holidays history) (omega (arith, some)) (omega arith)

pub segments_of_a_day : SegmentsOfADay
segments_of_a_day = record { stay = stay; numbers = by_number; there = there; vintages_there = vintages-there; accruals = accruals; vintages = vintages }
