-- A notice of a rate increase leaves earlier charges and older vintages alone.
use Rattle.std.proofs.Common.{◌≡◌, ℕ, zero, suc, ◌+◌, ◌-◌, ◌<◌, ◌≤◌, Bool, true, false, cond, ◌&&◌, not, List, [], ◌∷◌, refl, sym, ap, subst, ◌∙◌, arith, Option, Some, None, eqb, leb, get_or}
use Rattle.std.specs.List.{All, Contains, filter, filter_map, find, cons_option}
use Rattle.std.specs.Option.{option_or}
use Rattle.std.proofs.lemmas.Bool.{eqb-true, leb-true}
use Rattle.std.proofs.lemmas.Bool.Decides.{nat_tests}
use Rattle.std.proofs.lemmas.List.Elements.{All-cons, All-contains, All-contains_itself, All-head, All-nil, All-tail, All-weaker, Contains-append_right}
use Rattle.card_events.specs.declared.anchor.Anchor.{Anchor}
use Rattle.card_events.specs.History.{CorrectedPost, adds_segment, anchor_of, corrected, corrected_from, corrected_post, next_segment, terms_of}
use Rattle.card_events.specs.SharedRows.{SharedRows}
use Rattle.card_events.specs.declared.kept.Kept.{Kept}
use Rattle.card_events.specs.declared.post.Category.{Category}
use Rattle.card_events.specs.declared.post.Category.TheVariants as category
use Rattle.card_events.specs.declared.post.Place.{Place}
use Rattle.card_events.specs.declared.post.Place.TheVariants as place
use Rattle.card_events.specs.declared.post.Post.{Post}
use Rattle.card_events.specs.declared.post.Post.TheVariants as post
use Rattle.card_model.specs.Books.{Book, account_of}
use Rattle.card_model.specs.Cycles.{IssuedRow, seen_on}
use Rattle.card_model.specs.Entries.{is_kind}
use Rattle.card_model.specs.Folds.{book}
use Rattle.card_model.specs.Rates.{bears_in, index_for, own, rate_on}
use Rattle.card_model.specs.Segments.{SegmentTerms, id_of, is_plan, is_sort, last_that, opening_vintages, segment_at, segment_of, segments, sort_of_category}
use Rattle.card_model.specs.declared.entry.Entry.{Entry}
use Rattle.card_model.specs.declared.entry.EntryKind.{EntryKind}
use Rattle.card_model.specs.declared.entry.EntryKind.TheVariants as kind
use Rattle.card_model.specs.declared.segment.Sort.{Sort}
use Rattle.card_model.specs.declared.segment.Sort.TheVariants as sort
use Rattle.card_rates.proofs.ByNumber.{at-place}
use Rattle.card_rates.proofs.DayLaws.{segments_of_a_day}
use Rattle.card_rates.specs.RateBooks.{rates_of}
use Rattle.card_book.specs.Compliance.{NoticesKeepEarlierRates, rate_among, without}
use Rattle.card_bounds.specs.Places.{segments_by}
use Rattle.card_book.proofs.EveryEntry.{Adds, and-right, is_other, of_every_entry}

-- ---- the vintage that a notice adds
abbrev vintage : CorrectedPost → ℕ → ℕ → ℕ → Category → SegmentTerms
vintage p given rate effective c =
    record { id = p.segment; sort = sort_of_category c; post = p.number; begins = given + 15; ends = None; rate = rate; effective = effective; after = 0 }

no-plan : (p : CorrectedPost) (given rate effective : ℕ) (c : Category) → is_plan (vintage p given rate effective c) ≡ false
no-plan p given rate effective category.Purchase = refl
no-plan p given rate effective category.Cash = refl
no-plan p given rate effective category.Transfer = refl

in-option : {X : Type 0} (o : Option X) (xs : List X) (x : X) → Contains xs x → Contains (cons_option o xs) x
in-option None xs x h = h
in-option (Some y) xs x (k, l, e) = (suc k, omega (arith, l), e)

at-front : {X : Type 0} (o : Option X) (xs : List X) (x : X) → o ≡ Some x → Contains (cons_option o xs) x
at-front None xs x e = cc
at-front (Some y) xs x e = (zero, omega arith, ap (λ (v : Option _). option_value v y) e)
  where
    option_value : {X : Type 0} → Option X → X → X
    option_value None d = d
    option_value (Some v) d = v

in-mapped : {X Y : Type 0} (f : X → Option Y) (xs : List X) (x : X) (y : Y) → Contains xs x → f x ≡ Some y → Contains (filter_map f xs) y
in-mapped f [] x y (k, l, e) i = absurd (omega arith)
in-mapped f (z ∷ zs) x y (zero, l, e) i = at-front (f z) (filter_map f zs) y (ap f e ∙ i)
in-mapped f (z ∷ zs) x y (suc k, l, e) i = in-option (f z) (filter_map f zs) y (in-mapped f zs x y (k, omega arith, e) i)

is-there : (history : List Kept) (shared : SharedRows) (p : CorrectedPost) (given rate effective : ℕ) (c : Category)
    → Contains (corrected (anchor_of history) shared.holidays history) p → p.post ≡ post.Notice given c rate effective
    → Contains (rates_of shared.holidays history []).segments (vintage p given rate effective c)
unfolding segments
is-there history shared p given rate effective c h e =
    let adds = λ (q : CorrectedPost). segment_of q.segment q.number q.post in
    let is : adds p ≡ Some (vintage p given rate effective c) = ap (λ (x : Post). segment_of p.segment p.number x) e in
    let all = corrected (anchor_of history) shared.holidays history in
    Contains-append_right (opening_vintages (anchor_of history).opened (terms_of history)) (filter_map adds all) (vintage p given rate effective c) (in-mapped adds all p (vintage p given rate effective c) h is)

-- it is the only one with its number
abbrev IsOnly : SegmentTerms → SegmentTerms → Type 0
IsOnly v g = g.id ≡ v.id → g ≡ v

all-only : (history : List Kept) (issued : List IssuedRow) (shared : SharedRows) (on : ℕ) (v : SegmentTerms) → Contains (rates_of shared.holidays history []).segments v
    → All (IsOnly v) (segments_by history issued shared on)
all-only history issued shared on v h =
    let gs = segments_by history issued shared on in
    let every = (rates_of shared.holidays history []).segments in
    let numbers = segments_of_a_day.numbers shared.holidays history in
    All-weaker (Contains gs) (IsOnly v)
    (λ g c e. sym (at-place 2 every g v numbers (segments_of_a_day.stay history issued shared on g c)) ∙ (ap (λ n. get_or every (n - 2) v) e ∙ at-place 2 every v v numbers h)) gs (All-contains_itself gs)

-- ---- without it
or-none : {X : Type 0} (o : Option X) → option_or o None ≡ o
or-none None = refl
or-none (Some x) = refl

abbrev Passes : (SegmentTerms → Bool) → (SegmentTerms → Bool) → SegmentTerms → Type 0
Passes keep test g = keep g ≡ false → test g ≡ false

last-without : (keep test : SegmentTerms → Bool) (gs : List SegmentTerms) → All (Passes keep test) gs → last_that test gs ≡ last_that test (filter keep gs)
last-without keep test [] h = refl
last-without keep test (g ∷ gs) h = by (keep g) refl (test g) refl (last-without keep test gs (All-tail (Passes keep test) g gs h))
  where
    by : (t : Bool) → keep g ≡ t → (u : Bool) → test g ≡ u → last_that test gs ≡ last_that test (filter keep gs)
        → option_or (last_that test gs) (cond u (Some g) None) ≡ last_that test (cond t (g ∷ filter keep gs) (filter keep gs))
    by true k u e i = rw (e, i) refl
    by false k true e i = let out : test g ≡ false = All-head (Passes keep test) g gs h k in cc
    by false k false e i = or-none (last_that test gs) ∙ i

find-without : (keep test : SegmentTerms → Bool) (gs : List SegmentTerms) → All (Passes keep test) gs → find test gs ≡ find test (filter keep gs)
find-without keep test [] h = refl
find-without keep test (g ∷ gs) h = by (keep g) refl (test g) refl (find-without keep test gs (All-tail (Passes keep test) g gs h))
  where
    by : (t : Bool) → keep g ≡ t → (u : Bool) → test g ≡ u → find test gs ≡ find test (filter keep gs)
        → cond u (Some g) (find test gs) ≡ find test (cond t (g ∷ filter keep gs) (filter keep gs))
    by true k u e i = rw (e, i) refl
    by false k true e i = let out : test g ≡ false = All-head (Passes keep test) g gs h k in cc
    by false k false e i = i

left-out : (n v : ℕ) → not (eqb n v) ≡ false → n ≡ v
left-out n v e = by (eqb n v) refl e
  where
    by : (t : Bool) → eqb n v ≡ t → not t ≡ false → n ≡ v
    by true f e = eqb-true n v f
    by false f e = cc

and-false : (x y : Bool) → y ≡ false → x && y ≡ false
and-false true y e = e
and-false false y e = refl

above-day : (n day : ℕ) → day < n → leb n day ≡ false
above-day n day l = grind (arith, nat_tests)

-- ---- where charges go
begun-passes : (s : Sort) (day : ℕ) (v : SegmentTerms) (gs : List SegmentTerms) → day < v.begins → All (IsOnly v) gs
    → All (Passes (λ (g : SegmentTerms). not (eqb g.id v.id)) (λ (g : SegmentTerms). is_sort s g.sort && leb g.begins day)) gs
begun-passes s day v gs l h =
    All-weaker (IsOnly v) (Passes (λ (g : SegmentTerms). not (eqb g.id v.id)) (λ (g : SegmentTerms). is_sort s g.sort && leb g.begins day))
    (λ g only k. and-false (is_sort s g.sort) (leb g.begins day) (ap (λ (x : SegmentTerms). leb x.begins day) (only (left-out g.id v.id k)) ∙ above-day v.begins day l)) gs h

plan-passes : (n : ℕ) (v : SegmentTerms) (gs : List SegmentTerms) → is_plan v ≡ false → All (IsOnly v) gs
    → All (Passes (λ (g : SegmentTerms). not (eqb g.id v.id)) (λ (g : SegmentTerms). eqb g.post n && is_plan g)) gs
plan-passes n v gs l h =
    All-weaker (IsOnly v) (Passes (λ (g : SegmentTerms). not (eqb g.id v.id)) (λ (g : SegmentTerms). eqb g.post n && is_plan g))
    (λ g only k. and-false (eqb g.post n) (is_plan g) (ap is_plan (only (left-out g.id v.id k)) ∙ l)) gs h

same-place : (at : Place) (day : ℕ) (v : SegmentTerms) (gs : List SegmentTerms) → day < v.begins → is_plan v ≡ false → All (IsOnly v) gs
    → segment_at at day gs ≡ segment_at at day (without v.id gs)
same-place place.Purchase day v gs l f h = ap id_of (last-without (λ (g : SegmentTerms). not (eqb g.id v.id)) (λ g. is_sort sort.Purchase g.sort && leb g.begins day) gs (begun-passes sort.Purchase day v gs l h))
same-place place.Cash day v gs l f h = ap id_of (last-without (λ (g : SegmentTerms). not (eqb g.id v.id)) (λ g. is_sort sort.Cash g.sort && leb g.begins day) gs (begun-passes sort.Cash day v gs l h))
same-place place.Transfer day v gs l f h = ap id_of (last-without (λ (g : SegmentTerms). not (eqb g.id v.id)) (λ g. is_sort sort.Transfer g.sort && leb g.begins day) gs (begun-passes sort.Transfer day v gs l h))
same-place (place.Plan n) day v gs l f h = ap id_of (find-without (λ (g : SegmentTerms). not (eqb g.id v.id)) (λ g. eqb g.post n && is_plan g) gs (plan-passes n v gs f h))

-- a charge that goes to it is of a day from its first on
abbrev Tells : (SegmentTerms → Bool) → ℕ → Type 0 → SegmentTerms → Type 0
Tells test v D g = test g ≡ true → g.id ≡ v → D

last-tells : (test : SegmentTerms → Bool) (v : ℕ) (D : Type 0) (gs : List SegmentTerms) → (2 ≡ v → D) → All (Tells test v D) gs → id_of (last_that test gs) ≡ v → D
last-tells test v D [] two h e = two e
last-tells test v D (g ∷ gs) two h e = by (last-tells test v D gs two (All-tail (Tells test v D) g gs h)) (last_that test gs) refl (test g) refl e
  where
    by : (id_of (last_that test gs) ≡ v → D) → (o : Option SegmentTerms) → last_that test gs ≡ o → (t : Bool) → test g ≡ t → id_of (option_or o (cond t (Some g) None)) ≡ v → D
    by r (Some x) f t i e = r (ap id_of f ∙ e)
    by r None f true i e = All-head (Tells test v D) g gs h i e
    by r None f false i e = two e

find-tells : (test : SegmentTerms → Bool) (v : ℕ) (D : Type 0) (gs : List SegmentTerms) → (2 ≡ v → D) → All (Tells test v D) gs → id_of (find test gs) ≡ v → D
find-tells test v D [] two h e = two e
find-tells test v D (g ∷ gs) two h e = by (find-tells test v D gs two (All-tail (Tells test v D) g gs h)) (test g) refl e
  where
    by : (id_of (find test gs) ≡ v → D) → (t : Bool) → test g ≡ t → id_of (cond t (Some g) (find test gs)) ≡ v → D
    by r true i e = All-head (Tells test v D) g gs h i e
    by r false i e = r e

begun-tells : (s : Sort) (day : ℕ) (v : SegmentTerms) (gs : List SegmentTerms) → All (IsOnly v) gs
    → All (Tells (λ (g : SegmentTerms). is_sort s g.sort && leb g.begins day) v.id (v.begins ≤ day)) gs
begun-tells s day v gs h =
    All-weaker (IsOnly v) (Tells (λ (g : SegmentTerms). is_sort s g.sort && leb g.begins day) v.id (v.begins ≤ day))
    (λ g only t e. subst (λ (x : SegmentTerms). x.begins ≤ day) (only e) (leb-true g.begins day (and-right (is_sort s g.sort) (leb g.begins day) t))) gs h

plan-tells : (n day : ℕ) (v : SegmentTerms) (gs : List SegmentTerms) → is_plan v ≡ false → All (IsOnly v) gs
    → All (Tells (λ (g : SegmentTerms). eqb g.post n && is_plan g) v.id (v.begins ≤ day)) gs
plan-tells n day v gs f h =
    All-weaker (IsOnly v) (Tells (λ (g : SegmentTerms). eqb g.post n && is_plan g) v.id (v.begins ≤ day))
    (λ g only t e. absurd (differ (is_plan g) (and-right (eqb g.post n) (is_plan g) t) (ap is_plan (only e) ∙ f))) gs h
  where
    differ : (t : Bool) → t ≡ true → t ≡ false → ⊥
    differ true a b = cc
    differ false a b = cc

place-tells : (at : Place) (day : ℕ) (v : SegmentTerms) (gs : List SegmentTerms) → (2 ≡ v.id → v.begins ≤ day) → is_plan v ≡ false → All (IsOnly v) gs
    → segment_at at day gs ≡ v.id → v.begins ≤ day
place-tells place.Purchase day v gs two f h = last-tells (λ g. is_sort sort.Purchase g.sort && leb g.begins day) v.id (v.begins ≤ day) gs two (begun-tells sort.Purchase day v gs h)
place-tells place.Cash day v gs two f h = last-tells (λ g. is_sort sort.Cash g.sort && leb g.begins day) v.id (v.begins ≤ day) gs two (begun-tells sort.Cash day v gs h)
place-tells place.Transfer day v gs two f h = last-tells (λ g. is_sort sort.Transfer g.sort && leb g.begins day) v.id (v.begins ≤ day) gs two (begun-tells sort.Transfer day v gs h)
place-tells (place.Plan n) day v gs two f h = find-tells (λ g. eqb g.post n && is_plan g) v.id (v.begins ≤ day) gs two (plan-tells n day v gs f h)

-- ---- what charges bring
abbrev IsLater : ℕ → ℕ → Entry → Type 0
IsLater v first e = is_kind kind.Charge e.kind ≡ true → e.segment ≡ v → first ≤ e.day

abbrev IsAny : ℕ → Type 0
IsAny n = Unit {0}

other-kind : (k : EntryKind) → is_other k ≡ true → is_kind kind.Charge k ≡ true → ⊥
other-kind kind.Charge o e = cc
other-kind kind.Credit o e = cc
other-kind kind.Payment o e = cc
other-kind kind.Return o e = cc
other-kind kind.Refund o e = cc
other-kind kind.Fee o e = cc
other-kind kind.Interest o e = cc
other-kind kind.Hold o e = cc

all-any : (gs : List SegmentTerms) → All (λ (g : SegmentTerms). IsAny g.id) gs
all-any [] = All-nil (λ (g : SegmentTerms). IsAny g.id)
all-any (g ∷ gs) = All-cons (λ (g : SegmentTerms). IsAny g.id) g gs tt (all-any gs)

adds : (history : List Kept) (issued : List IssuedRow) (shared : SharedRows) (v : SegmentTerms) → 2 < v.id → is_plan v ≡ false → Contains (rates_of shared.holidays history []).segments v
    → (day : ℕ) → Adds IsAny (IsLater v.id v.begins) (account_of history) (seen_on (anchor_of history) shared history issued day)
adds history issued shared v high f there day =
    let gs = segments_by history issued shared day in
    record {
      credit = tt;
      purchase = tt;
      each = all-any gs;
      other = λ k n s z o h c e. absurd (other-kind k o c);
      hold = λ n s z c e. cc;
      charge = λ at n z c e. place-tells at day v gs (λ two. absurd (omega (arith, high, two))) f (all-only history issued shared day v there) e;
      used = λ n z c e. absurd (omega (arith, high, e));
      part = λ x h pay. tt;
    }

-- ---- rates
older-passes : (day id v : ℕ) (s : Sort) (gs : List SegmentTerms) → id < v → All (Passes (λ (g : SegmentTerms). not (eqb g.id v)) (bears_in day s id)) gs
older-passes day id v s [] l = All-nil (Passes (λ (g : SegmentTerms). not (eqb g.id v)) (bears_in day s id))
older-passes day id v s (g ∷ gs) l =
    All-cons (Passes (λ (g : SegmentTerms). not (eqb g.id v)) (bears_in day s id)) g gs
    (λ k. out (is_sort s g.sort) (leb g.id id) (leb g.begins day) (leb g.effective day) (let same = left-out g.id v k in above-day g.id id (omega (arith, same, l)))) (older-passes day id v s gs l)
  where
    out : (a b c d : Bool) → b ≡ false → a && b && c && d ≡ false
    out true false c d e = refl
    out false b c d e = refl
    out true true c d e = cc

same-own : (index : Option ℕ) (day v : ℕ) (g : SegmentTerms) (gs : List SegmentTerms) → g.id < v → own index gs day g ≡ own index (without v gs) day g
same-own index day v g gs l =
    let same = last-without (λ (x : SegmentTerms). not (eqb x.id v)) (bears_in day g.sort g.id) gs (older-passes day g.id v g.sort gs l) in
    rw same refl

same-rate : (history : List Kept) (issued : List IssuedRow) (shared : SharedRows) (on day v : ℕ) (b : Book) (g : SegmentTerms) (gs : List SegmentTerms) → g.id < v
    → rate_among gs history issued shared on b day g ≡ rate_among (without v gs) history issued shared on b day g
unfolding rate_on
same-rate history issued shared on day v b g gs l =
    let index = index_for (account_of history).variable (seen_on (anchor_of history) shared history issued on).index day in
    let same = same-own index day v g gs l in
    rw same refl

-- ---- the law
From : ℕ → CorrectedPost → Type 0
From s p = s ≤ p.segment

next-from : (s : ℕ) (t : Bool) (p : CorrectedPost) → From (cond t (s + 1) s) p → From s p
unfolding From
next-from s true p h = omega (arith, h)
next-from s false p h = h

all-from : (a : Anchor) (holidays : List ℕ) (history : List Kept) (n s : ℕ) (ks : List Kept) → All (From s) (corrected_from a holidays history n s ks)
unfolding corrected_from corrected_post From
all-from a holidays history n s [] = All-nil (From s)
all-from a holidays history n s (k ∷ ks) =
    let rest = corrected_from a holidays history (suc n) (next_segment s k.post) ks in
    All-cons (From s) (corrected_post a holidays history n s k) rest (omega arith)
    (All-weaker (From (next_segment s k.post)) (From s) (next-from s (adds_segment k.post)) rest (all-from a holidays history (suc n) (next_segment s k.post) ks))

above-two : (history : List Kept) (shared : SharedRows) (p : CorrectedPost) → Contains (corrected (anchor_of history) shared.holidays history) p → 4 < p.segment
unfolding From
above-two history shared p h = let from = All-contains (From 5) (corrected (anchor_of history) shared.holidays history) p (all-from (anchor_of history) shared.holidays history 1 5 history) h in omega (arith, from)

pub notices_keep_earlier_rates : NoticesKeepEarlierRates
unfolding book
notices_keep_earlier_rates history issued shared p given rate effective c h e =
    let v = vintage p given rate effective c in
    let there = is-there history shared p given rate effective c h e in
    let plain = no-plan p given rate effective c in
    let high = above-two history shared p h in
    record {
      charges = λ day.
          of_every_entry IsAny (IsLater v.id v.begins) issued (account_of history) (seen_on (anchor_of history) shared history issued) (day + 1 - (anchor_of history).opened)
          (λ d. adds history issued shared v (omega (arith, high)) plain there d);
      places = λ on day at l. same-place at day v (segments_by history issued shared on) (omega (arith, l)) plain (all-only history issued shared on v there);
      rates = λ on day b g l. same-rate history issued shared on day p.segment b g (segments_by history issued shared on) l;
    }
