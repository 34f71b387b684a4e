-- Ranks, and the holdings that they make of balances.
use Rattle.std.proofs.Common.{◌≡◌, ℕ, zero, suc, ◌+◌, ◌-◌, ◌<◌, ◌≤◌, Bool, true, false, ◌||◌, cond, List, [], ◌∷◌, ◌++◌, length, drop, map, refl, sym, ap, ◌∙◌, subst, arith, eqb, ltb, get_or, Option, Some, None, ℤ, pos}
use Rattle.std.specs.List.{All, Contains, filter, list_any}
use Rattle.std.proofs.lemmas.Bool.{false≢true}
use Rattle.std.proofs.lemmas.List.{drop_all, drop_more}
use Rattle.std.proofs.lemmas.List.Elements.{All-nil, All-cons, All-head, All-tail, All-weaker, All-contains_itself}
use Rattle.card_segments.specs.Holdings as made
use Rattle.card_segments.specs.declared.rank.Rank.{Rank}
use Rattle.card_events.specs.SharedRows.{IndexRow}
use Rattle.card_events.specs.declared.post.Place.{Place}
use Rattle.card_model.specs.Allocation.{Ascends, allocated, placed}
use Rattle.card_model.specs.Books.{Account, Book}
use Rattle.card_model.specs.Cycles.{Seen}
use Rattle.card_model.specs.Effects.{end_by, holding, holdings, is_in_place, second_closing}
use Rattle.card_model.specs.Entries.{at_least_zero, balance}
use Rattle.card_model.specs.Segments.{SegmentTerms, is_sort, kept_segment}
use Rattle.card_model.specs.declared.entry.Entry.{Entry}
use Rattle.card_model.specs.declared.holding.Holding.{Holding}
use Rattle.card_model.specs.declared.segment.Sort.TheVariants.{Deferred}
use Rattle.card_rates.specs.RateBooks.{AreByNumber, Rates, rate_of}
use Rattle.card_rates.specs.Settled.{has_deferred}
use Rattle.card_rates.proofs.ByNumber.{number-below}
use Rattle.card_effects.specs.Entering.{FollowsWhereAsked}
use Rattle.card_effects.specs.Ranks.{rank_on, ranks_on}
use Rattle.card_effects.specs.Standing.{StandsAt, is_added}
use Rattle.card_effects.proofs.Empties.{allocated-full, counts, placed-full}

abbrev pub the_rank : ℕ → Option ℕ → Rank
the_rank r e = record { rate = r; last_two = e }

-- ---- the list of ranks
snoc : (xs : List Rank) (r : Rank) (ys : List Rank) → (xs ++ r ∷ []) ++ ys ≡ xs ++ r ∷ ys
snoc [] r ys = refl
snoc (x ∷ xs) r ys = ap (λ zs. x ∷ zs) (snoc xs r ys)

pub rank-pushed : (f : SegmentTerms → Rank) (gs : List SegmentTerms) (d : SegmentTerms) (xs new all : List Rank) (r : Rank) (id : ℕ) → 2 ≤ id → id - 2 < length gs → new ≡ xs ++ r ∷ [] → r ≡ f (get_or gs (id - 2) d)
    → xs ++ map f (drop (id - 2) gs) ≡ all → new ++ map f (drop (id + 1 - 2) gs) ≡ all
rank-pushed f gs d xs new all r id low l n e h =
    let next : id - 2 + 1 ≡ id + 1 - 2 = omega arith in
    ap (λ us. us ++ map f (drop (id + 1 - 2) gs)) n
    ∙ (snoc xs r (map f (drop (id + 1 - 2) gs))
    ∙ (ap (λ q. xs ++ q ∷ map f (drop (id + 1 - 2) gs)) e
    ∙ (ap (λ k. xs ++ f (get_or gs (id - 2) d) ∷ map f (drop k gs)) (sym next)
    ∙ (ap (λ us. xs ++ map f us) (sym (drop_more gs (id - 2) d l)) ∙ h))))

-- ---- the following closing
or-left : (a b : Bool) → a ≡ true → (a || b) ≡ true
or-left true b e = refl
or-left false b e = absurd (false≢true e)

or-right : (a b : Bool) → b ≡ true → (a || b) ≡ true
or-right true b e = refl
or-right false b e = e

has-one : (gs : List SegmentTerms) (g : SegmentTerms) → Contains gs g → is_sort Deferred g.sort ≡ true → has_deferred gs ≡ true
has-one [] g (k, l, e) s = absurd (omega arith)
has-one (x ∷ xs) g (zero, l, e) s = or-left (is_sort Deferred x.sort) (has_deferred xs) (ap (λ (v : SegmentTerms). is_sort Deferred v.sort) e ∙ s)
has-one (x ∷ xs) g (suc k, l, e) s = or-right (is_sort Deferred x.sort) (has_deferred xs) (has-one xs g (k, omega arith, e) s)

-- only a deferred plan reads it
end-same : (until other day : ℕ) (gs : List SegmentTerms) (g : SegmentTerms) → Contains gs g → (has_deferred gs ≡ true → until ≡ other) → end_by until day (kept_segment g) ≡ end_by other day (kept_segment g)
end-same until other day gs g c u = by (is_sort Deferred g.sort) refl
  where
    by : (t : Bool) → is_sort Deferred g.sort ≡ t → end_by until day (kept_segment g) ≡ end_by other day (kept_segment g)
    by true e = ap (λ x. end_by x day (kept_segment g)) (u (has-one gs g c e))
    by false e = rw e refl

-- so a rank doesn't depend on it where no segment is one
rank-same : (rows : List IndexRow) (rated : Rates) (until other day : ℕ) (g : SegmentTerms) → Contains rated.segments g → (has_deferred rated.segments ≡ true → until ≡ other) → rank_on rows rated until day g ≡ rank_on rows rated other day g
rank-same rows rated until other day g c u = ap (λ (x : Option ℕ). the_rank (rate_of rows rated day g) x) (end-same until other day rated.segments g c u)

-- ---- holdings of balances and ranks
holdings-of : (pl : List ℕ) (f : SegmentTerms → Rank) (h : SegmentTerms → Holding) (m : ℕ) (gs : List SegmentTerms) (bs : List ℤ) → AreByNumber m gs → m + length gs ≡ length bs
    → All (λ (g : SegmentTerms). made.holding pl g.id (get_or bs g.id (pos 0)) (f g) ≡ h g) gs → made.holdings_from pl m (drop m bs) (map f gs) ≡ map h gs
unfolding AreByNumber
holdings-of pl f h m [] bs n l a = rw (drop_all m bs (omega (arith, l))) refl
holdings-of pl f h m (g ∷ gs) bs n l a =
    let P : SegmentTerms → Type 0 = λ (g : SegmentTerms). made.holding pl g.id (get_or bs g.id (pos 0)) (f g) ≡ h g in
    let next : m + 1 ≡ suc m = omega arith in
    let first : made.holding pl m (get_or bs m (pos 0)) (f g) ≡ h g = subst (λ k. made.holding pl k (get_or bs k (pos 0)) (f g) ≡ h g) n.0 (All-head P g gs a) in
    let rest = holdings-of pl f h (suc m) gs bs n.1 (omega (arith, l)) (All-tail P g gs a) in
    ap (λ us. made.holdings_from pl m us (f g ∷ map f gs)) (drop_more bs m (pos 0) (omega (arith, l)))
    ∙ (ap (λ x. x ∷ made.holdings_from pl (m + 1) (drop (m + 1) bs) (map f gs)) first
    ∙ (ap (λ k. h g ∷ made.holdings_from pl k (drop k bs) (map f gs)) next ∙ ap (λ us. h g ∷ us) rest))

-- ---- those that are still to come may be left out
left-out : (h : SegmentTerms → Holding) (q : SegmentTerms → Bool) (gs : List SegmentTerms) → All (λ (g : SegmentTerms). q g ≡ false → counts (h g) ≡ false) gs
    → filter counts (map h gs) ≡ filter counts (map h (filter q gs))
left-out h q [] a = refl
left-out h q (g ∷ gs) a = by (q g) (counts (h g)) refl refl (left-out h q gs (All-tail (λ (g : SegmentTerms). q g ≡ false → counts (h g) ≡ false) g gs a)) (All-head (λ (g : SegmentTerms). q g ≡ false → counts (h g) ≡ false) g gs a)
  where
    by : (t u : Bool) → q g ≡ t → counts (h g) ≡ u → filter counts (map h gs) ≡ filter counts (map h (filter q gs)) → (q g ≡ false → counts (h g) ≡ false)
        → cond u (h g ∷ filter counts (map h gs)) (filter counts (map h gs)) ≡ filter counts (map h (cond t (g ∷ filter q gs) (filter q gs)))
    by true true e f ih p = rw (f, ih) refl
    by true false e f ih p = rw (f, ih) refl
    by false true e f ih p = absurd (false≢true (sym (p e) ∙ f))
    by false false e f ih p = ih

ascending : (h : SegmentTerms → Holding) → ((g : SegmentTerms) → (h g).id ≡ g.id) → (m low : ℕ) (gs : List SegmentTerms) → AreByNumber m gs → low ≤ m → Ascends low (map h gs)
unfolding AreByNumber
ascending h same m low [] n l = tt
ascending h same m low (g ∷ gs) n l =
    let one = same g in
    let here = n.0 in
    (omega (arith, one, here), ascending h same (suc m) ((h g).id + 1) gs n.1 (omega (arith, one, here)))

-- a list that leaves them out ascends too
ascending-some : (h : SegmentTerms → Holding) → ((g : SegmentTerms) → (h g).id ≡ g.id) → (q : SegmentTerms → Bool) (m low : ℕ) (gs : List SegmentTerms) → AreByNumber m gs → low ≤ m → Ascends low (map h (filter q gs))
unfolding AreByNumber
ascending-some h same q m low [] n l = tt
ascending-some h same q m low (g ∷ gs) n l =
    let one = same g in
    let here = n.0 in
    by (q g) (ascending-some h same q (suc m) ((h g).id + 1) gs n.1 (omega (arith, one, here))) (ascending-some h same q (suc m) low gs n.1 (omega arith)) (omega (arith, one, here))
  where
    by : (t : Bool) → Ascends ((h g).id + 1) (map h (filter q gs)) → Ascends low (map h (filter q gs)) → low ≤ (h g).id → Ascends low (map h (cond t (g ∷ filter q gs) (filter q gs)))
    by true with without k = (k, with)
    by false with without k = without

-- ---- together
-- the numbers of the segments of a place
abbrev pub AreNumbersOf : Option Place → List SegmentTerms → List ℕ → Type 0
AreNumbersOf place gs numbers = All (λ (g : SegmentTerms). list_any (λ s. eqb s g.id) numbers ≡ is_in_place place g) gs

pub no-place : (gs : List SegmentTerms) → AreNumbersOf None gs []
no-place [] = All-nil (λ (g : SegmentTerms). list_any (λ s. eqb s g.id) [] ≡ is_in_place None g)
no-place (g ∷ gs) = All-cons (λ (g : SegmentTerms). list_any (λ s. eqb s g.id) [] ≡ is_in_place None g) g gs refl (no-place gs)

to-come-empty : (a : Account) (seen : Seen) (b : Book) (rated : Rates) (bs : List ℤ) (es : List Entry) (place : Option Place) → StandsAt a seen b rated bs es
    → All (λ (g : SegmentTerms). is_added seen.day g ≡ false → counts (holding a seen b place g) ≡ false) rated.segments
to-come-empty a seen b rated bs es place s =
    All-weaker (Contains rated.segments) (λ (g : SegmentTerms). is_added seen.day g ≡ false → counts (holding a seen b place g) ≡ false)
    (λ g c e. none (balance g.id b.entries) (s.to_come g c e)) rated.segments (All-contains_itself rated.segments)
  where
    none : (z : ℤ) → z ≡ pos 0 → ltb 0 (at_least_zero z + 0) ≡ false
    none z e = ap (λ (y : ℤ). ltb 0 (at_least_zero y + 0)) e

same-holdings : (a : Account) (seen : Seen) (b : Book) (rated : Rates) (bs : List ℤ) (es : List Entry) (until day : ℕ) (place : Option Place) (pl : List ℕ) → AreByNumber 2 rated.segments → length rated.segments + 2 ≡ length bs
    → StandsAt a seen b rated bs es → FollowsWhereAsked rated until a seen → day ≡ seen.day → AreNumbersOf place rated.segments pl → made.holdings pl bs (ranks_on seen.index rated until day) ≡ map (holding a seen b place) rated.segments
same-holdings a seen b rated bs es until day place pl numbers l s u d named =
    let all = rated.segments in
    holdings-of pl (rank_on seen.index rated until day) (holding a seen b place) 2 all bs numbers (omega (arith, l)) (both all (All-contains_itself all) named)
  where
    one : (g : SegmentTerms) → Contains rated.segments g → list_any (λ s. eqb s g.id) pl ≡ is_in_place place g → made.holding pl g.id (get_or bs g.id (pos 0)) (rank_on seen.index rated until day g) ≡ holding a seen b place g
    one g c e =
        let below = number-below 2 rated.segments g numbers c in
        ap (λ (r : Rank). made.holding pl g.id (get_or bs g.id (pos 0)) r) (rank-same seen.index rated until (second_closing a seen.day) day g c u)
        ∙ rw (d, s.rates g, s.sums.each g.id (omega (arith, l, below)), e) refl

    both : (gs : List SegmentTerms) → All (Contains rated.segments) gs → AreNumbersOf place gs pl → All (λ (g : SegmentTerms). made.holding pl g.id (get_or bs g.id (pos 0)) (rank_on seen.index rated until day g) ≡ holding a seen b place g) gs
    both [] c n = All-nil (λ (g : SegmentTerms). made.holding pl g.id (get_or bs g.id (pos 0)) (rank_on seen.index rated until day g) ≡ holding a seen b place g)
    both (g ∷ gs) c n =
        All-cons (λ (g : SegmentTerms). made.holding pl g.id (get_or bs g.id (pos 0)) (rank_on seen.index rated until day g) ≡ holding a seen b place g) g gs
        (one g (All-head (Contains rated.segments) g gs c) (All-head (λ (g : SegmentTerms). list_any (λ s. eqb s g.id) pl ≡ is_in_place place g) g gs n))
        (both gs (All-tail (Contains rated.segments) g gs c) (All-tail (λ (g : SegmentTerms). list_any (λ s. eqb s g.id) pl ≡ is_in_place place g) g gs n))

-- the holdings of all segments, and those of today's
abbrev AllAscend : Account → Seen → Book → Rates → Option Place → Type 0
AllAscend a seen b rated place = Ascends 0 (map (holding a seen b place) rated.segments) × Ascends 0 (map (holding a seen b place) (filter (is_added seen.day) rated.segments))

all-ascend : (a : Account) (seen : Seen) (b : Book) (rated : Rates) (place : Option Place) → AreByNumber 2 rated.segments → AllAscend a seen b rated place
all-ascend a seen b rated place numbers =
    (ascending (holding a seen b place) (λ g. refl) 2 0 rated.segments numbers (omega arith), ascending-some (holding a seen b place) (λ g. refl) (is_added seen.day) 2 0 rated.segments numbers (omega arith))

pub allocated-is : (a : Account) (seen : Seen) (b : Book) (rated : Rates) (bs : List ℤ) (es : List Entry) (until day minimum amount : ℕ) → AreByNumber 2 rated.segments → length rated.segments + 2 ≡ length bs → StandsAt a seen b rated bs es
    → FollowsWhereAsked rated until a seen → day ≡ seen.day → allocated minimum amount (made.holdings [] bs (ranks_on seen.index rated until day)) ≡ allocated minimum amount (holdings a seen b None)
allocated-is a seen b rated bs es until day minimum amount numbers l s u d =
    let h = holding a seen b None in
    let all = rated.segments in
    let ascend = all-ascend a seen b rated None numbers in
    ap (allocated minimum amount) (same-holdings a seen b rated bs es until day None [] numbers l s u d (no-place all))
    ∙ (sym (allocated-full minimum amount 0 (map h all) ascend.0)
    ∙ (ap (allocated minimum amount) (left-out h (is_added seen.day) all (to-come-empty a seen b rated bs es None s))
    ∙ (allocated-full minimum amount 0 (map h (filter (is_added seen.day) all)) ascend.1
    ∙ ap (λ gs. allocated minimum amount (map h gs)) (sym s.segments))))

pub placed-is : (a : Account) (seen : Seen) (b : Book) (rated : Rates) (bs : List ℤ) (es : List Entry) (until day amount : ℕ) (place : Place) (pl : List ℕ) → AreByNumber 2 rated.segments → length rated.segments + 2 ≡ length bs
    → StandsAt a seen b rated bs es → FollowsWhereAsked rated until a seen → day ≡ seen.day → AreNumbersOf (Some place) rated.segments pl
    → placed amount (made.holdings pl bs (ranks_on seen.index rated until day)) ≡ placed amount (holdings a seen b (Some place))
placed-is a seen b rated bs es until day amount place pl numbers l s u d named =
    let h = holding a seen b (Some place) in
    let all = rated.segments in
    let ascend = all-ascend a seen b rated (Some place) numbers in
    ap (placed amount) (same-holdings a seen b rated bs es until day (Some place) pl numbers l s u d named)
    ∙ (sym (placed-full amount 0 (map h all) ascend.0)
    ∙ (ap (placed amount) (left-out h (is_added seen.day) all (to-come-empty a seen b rated bs es (Some place) s))
    ∙ (placed-full amount 0 (map h (filter (is_added seen.day) all)) ascend.1
    ∙ ap (λ gs. placed amount (map h gs)) (sym s.segments))))
