-- How far a rate may rise.
use Rattle.std.proofs.Common.{◌≡◌, ℕ, zero, suc, ◌+◌, ◌-◌, ◌≤◌, ◌<◌, ◌⊎◌, inl, inr, min, max, Bool, true, false, cond, ◌&&◌, List, [], ◌∷◌, leb, refl, sym, ap, ◌∙◌, subst, arith, Option, Some, None}
use Rattle.std.proofs.lemmas.Bool.{cases_lt}
use Rattle.std.proofs.lemmas.List.Elements.{All-weaker, All-contains_itself}
use Rattle.std.specs.Prelude.{unwrap_or}
use Rattle.std.specs.List.{Contains, cons_option, filter_map, fold}
use Rattle.card_events.specs.History.{CorrectedPost, anchor_of, terms_of}
use Rattle.card_events.specs.Money.{rate_limit}
use Rattle.card_events.specs.SharedRows.{IndexRow, SharedRows}
use Rattle.card_events.specs.declared.kept.Kept.{Kept}
use Rattle.card_events.specs.declared.post.Category.{Category}
use Rattle.card_events.specs.declared.post.Post.TheVariants as post
use Rattle.card_model.specs.Cycles.{IssuedRow}
use Rattle.card_model.specs.Folds.{book}
use Rattle.card_model.specs.Rates.{Begun, Lowering, after_end, bears_as, bears_in, begun_of, capped, in_force, index_for, index_on, is_opening, lasts, lowered_by, lowering_of, lowerings, own, rate_with, start_of, starts, with_penalty}
use Rattle.card_model.specs.Segments.{SegmentTerms, is_over, is_plan, is_sort, last_that, sort_of_category}
use Rattle.card_model.specs.declared.segment.Interval.{Interval}
use Rattle.card_model.specs.declared.segment.Sort.{Sort}
use Rattle.card_model.specs.declared.segment.Sort.TheVariants as sort
use Rattle.card_rates.proofs.Added.{added-by-number, segments-are}
use Rattle.card_rates.proofs.ByNumber.{number-above}
use Rattle.card_rates.proofs.DayLaws.{rates_later, segments_of_a_day}
use Rattle.card_rates.specs.Added.{added_from}
use Rattle.card_rates.specs.Laws.{segments_on}
use Rattle.card_rates.specs.RateBooks.{AreByNumber, Rates, lasting_rate, rate_of, rates_of}
use Rattle.card_rules.proofs.Announced.{opened-or-added}
use Rattle.card_rules.proofs.IndexRates.{capped-low, none-later}
use Rattle.card_rules.proofs.Rises.{bears-same, capped-falls, high-is, is-high, is-low, last-same, low-is, rate-lasting, rate-over, rate-vintage}
use Rattle.card_rules.proofs.Settled.{AreSettled, all-settled}
use Rattle.card_rules.specs.Notices.{AreNotices}
use Rattle.card_rules.specs.RaiseBounds.{IsAfterPlan, IsOfAPenalty, IsOfItsNotice, KeepsToLowers, RaisesAreBounded, RoseWithIndex, is_lowered_with, posts_of}
use Rattle.card_rules.specs.Rises.{HasEnded, is_of_the_opening, rate_at}

-- ---- a rate is at most each Lower that caps it
one-lowered : (s : Sort) (from to r : ℕ) (l : Lowering) → is_sort s l.sort ≡ true → from ≤ l.day → l.day ≤ to → lowered_by s from to r l ≤ l.rate
one-lowered s from to r l same low high =
    let a = is-low from l.day low in
    let b = is-low l.day to high in
    rw (same, a, b) (omega arith)

still-low : (s : Sort) (from to r : ℕ) (l : Lowering) → lowered_by s from to r l ≤ r
still-low s from to r l = by (is_sort s l.sort && leb from l.day && leb l.day to)
  where
    by : (t : Bool) → cond t (min r l.rate) r ≤ r
    by true = omega arith
    by false = omega arith

all-low : (s : Sort) (from to r : ℕ) (ls : List Lowering) → fold (lowered_by s from to) r ls ≤ r
all-low s from to r [] = omega arith
all-low s from to r (l ∷ ls) = let one = still-low s from to r l in let rest = all-low s from to (lowered_by s from to r l) ls in omega (arith, one, rest)

each-lowered : (s : Sort) (from to r : ℕ) (ls : List Lowering) (l : Lowering) → Contains ls l → is_sort s l.sort ≡ true → from ≤ l.day → l.day ≤ to → fold (lowered_by s from to) r ls ≤ l.rate
each-lowered s from to r [] l (k, b, e) same low high = absurd (omega arith)
each-lowered s from to r (x ∷ xs) l (zero, b, e) same low high =
    let here = one-lowered s from to r l same low high in
    let rest = all-low s from to (lowered_by s from to r x) xs in
    let is : lowered_by s from to r x ≡ lowered_by s from to r l = ap (lowered_by s from to r) e in
    omega (arith, here, rest, is)
each-lowered s from to r (x ∷ xs) l (suc k, b, e) same low high = each-lowered s from to (lowered_by s from to r x) xs l (k, omega arith, e) same low high

capped-each : (ls : List Lowering) (s : Sort) (to : ℕ) (b : Begun) (l : Lowering) → Contains ls l → is_sort s l.sort ≡ true → b.from ≤ l.day → l.day ≤ to → capped ls s to b ≤ l.rate
unfolding capped
capped-each ls s to b l c same low high = each-lowered s b.from to b.rate ls l c same low high

-- a Lower among the posts is one of the Lowers
in-option : (o : Option Lowering) (xs : List Lowering) (x : Lowering) → Contains xs x → Contains (cons_option o xs) x
in-option None xs x h = h
in-option (Some y) xs x (k, l, e) = (suc k, omega (arith, l), e)

at-front : (o : Option Lowering) (xs : List Lowering) (x : Lowering) → o ≡ Some x → Contains (cons_option o xs) x
at-front None xs x e = absurd (cc)
at-front (Some y) xs x e = let same : y ≡ x = cc in (zero, omega arith, same)

in-mapped : (f : CorrectedPost → Option Lowering) (xs : List CorrectedPost) (x : CorrectedPost) (y : Lowering) → Contains xs x → f x ≡ Some y → Contains (filter_map f xs) y
in-mapped f [] x y (k, l, e) i = absurd (omega arith)
in-mapped f (z ∷ zs) x y (zero, l, e) i = at-front (f z) (filter_map f zs) y (ap f e ∙ i)
in-mapped f (z ∷ zs) x y (suc k, l, e) i = in-option (f z) (filter_map f zs) y (in-mapped f zs x y (k, omega arith, e) i)

is-lowering : (posts : List CorrectedPost) (p : CorrectedPost) (day lowered : ℕ) (c : Category) → Contains posts p → p.post ≡ post.Lower day c lowered
    → Contains (lowerings posts) (record { sort = sort_of_category c; day = day; rate = lowered })
unfolding lowerings
is-lowering posts p day lowered c there e =
    in-mapped (λ q. lowering_of q.post) posts p (record { sort = sort_of_category c; day = day; rate = lowered }) there (ap lowering_of e)

as-sort : (g : SegmentTerms) (c : Category) → is_lowered_with g c ≡ true → is_sort (bears_as g) (sort_of_category c) ≡ true
as-sort g c e = by (is_plan g) e
  where
    by : (t : Bool) → cond t (is_sort sort.Purchase (sort_of_category c)) (is_sort g.sort (sort_of_category c)) ≡ true → is_sort (cond t sort.Purchase g.sort) (sort_of_category c) ≡ true
    by true e = e
    by false e = e

keeps : (posts : List CorrectedPost) (g : SegmentTerms) (to rate : ℕ) (b : Begun) → rate ≤ capped (lowerings posts) (bears_as g) to b → KeepsToLowers posts g b.from to rate
keeps posts g to rate b low p day lowered c there is same from by-then =
    let each = capped-each (lowerings posts) (bears_as g) to b (record { sort = sort_of_category c; day = day; rate = lowered }) (is-lowering posts p day lowered c there is) (as-sort g c same) from by-then in
    omega (arith, low, each)

-- ---- of two own rates that began on one day, the one is higher by no more than so much
record Within (more : ℕ) (b c : Begun) : Type 0 where
  from : b.from ≡ c.from
  rate : b.rate ≤ c.rate + more

one-within : (s : Sort) (from day later more r q : ℕ) (l : Lowering) → day ≤ later → r ≤ q + more → lowered_by s from later r l ≤ lowered_by s from day q l + more
one-within s from day later more r q l h low = by (is_sort s l.sort && leb from l.day) (leb l.day later) refl (leb l.day day) refl
  where
    by : (t w : Bool) → leb l.day later ≡ w → (u : Bool) → leb l.day day ≡ u → cond (t && w) (min r l.rate) r ≤ cond (t && u) (min q l.rate) q + more
    by false w f u e = low
    by true true f true e = omega arith
    by true true f false e = omega arith
    by true false f true e = let a = high-is l.day later f in let b = low-is l.day day e in absurd (omega arith)
    by true false f false e = low

lowers-within : (s : Sort) (from day later more r q : ℕ) (ls : List Lowering) → day ≤ later → r ≤ q + more → fold (lowered_by s from later) r ls ≤ fold (lowered_by s from day) q ls + more
lowers-within s from day later more r q [] h low = low
lowers-within s from day later more r q (l ∷ ls) h low = lowers-within s from day later more (lowered_by s from later r l) (lowered_by s from day q l) ls h (one-within s from day later more r q l h low)

within-capped : (ls : List Lowering) (s : Sort) (day later more : ℕ) (b c : Begun) → day ≤ later → Within more b c → capped ls s later b ≤ capped ls s day c + more
unfolding capped
within-capped ls s day later more b c h w =
    subst (λ from. fold (lowered_by s b.from later) b.rate ls ≤ fold (lowered_by s from day) c.rate ls + more) w.from (lowers-within s b.from day later more b.rate c.rate ls h w.rate)

-- ---- the index
record Moves (variable : Bool) (rows : List IndexRow) (day later : ℕ) (o : Option SegmentTerms) : Type 0 where
  variable_is : variable ≡ true
  follows : is_of_the_opening o ≡ true
  rose : unwrap_or (index_on rows day) 0 < unwrap_or (index_on rows later) 0
  within : Within (unwrap_or (index_on rows later) 0 - unwrap_or (index_on rows day) 0) (begun_of (index_for variable rows later) o) (begun_of (index_for variable rows day) o)

moves : (variable : Bool) (rows : List IndexRow) (day later : ℕ) (o : Option SegmentTerms)
    → Within 0 (begun_of (index_for variable rows later) o) (begun_of (index_for variable rows day) o) ⊎ Moves variable rows day later o
moves false rows day later o = inl (itself (begun_of None o))
  where
    itself : (b : Begun) → Within 0 b b
    itself b = record { from = refl; rate = omega arith }
moves true rows day later None = inl (record { from = refl; rate = omega arith })
moves true rows day later (Some v) = by (is_opening v) refl (cases_lt (unwrap_or (index_on rows day) 0) (unwrap_or (index_on rows later) 0))
  where
    low : (t : Bool) (i j : ℕ) → j ≤ i → cond t (min rate_limit (v.rate + j)) v.rate ≤ cond t (min rate_limit (v.rate + i)) v.rate + 0
    low true i j l = omega (arith, l)
    low false i j l = omega arith

    high : (t : Bool) (i j : ℕ) → i < j → cond t (min rate_limit (v.rate + j)) v.rate ≤ cond t (min rate_limit (v.rate + i)) v.rate + (j - i)
    high true i j l = omega (arith, l)
    high false i j l = omega arith

    same : (t : Bool) (i j : ℕ) → t ≡ false → cond t (min rate_limit (v.rate + j)) v.rate ≤ cond t (min rate_limit (v.rate + i)) v.rate + 0
    same true i j e = absurd (cc)
    same false i j e = omega arith

    by : (t : Bool) → is_opening v ≡ t → (unwrap_or (index_on rows day) 0 < unwrap_or (index_on rows later) 0) ⊎ (unwrap_or (index_on rows later) 0 ≤ unwrap_or (index_on rows day) 0)
        → Within 0 (begun_of (index_for true rows later) (Some v)) (begun_of (index_for true rows day) (Some v)) ⊎ Moves true rows day later (Some v)
    by t e (inr l) = inl (record { from = refl; rate = low (is_opening v) (unwrap_or (index_on rows day) 0) (unwrap_or (index_on rows later) 0) l })
    by false e (inl l) = inl (record { from = refl; rate = same (is_opening v) (unwrap_or (index_on rows day) 0) (unwrap_or (index_on rows later) 0) e })
    by true e (inl l) = inr (record { variable_is = refl; follows = e; rose = l; within = record { from = refl; rate = high (is_opening v) (unwrap_or (index_on rows day) 0) (unwrap_or (index_on rows later) 0) l } })

-- ---- penalties
-- the penalties in force raise a rate to the rate of one of them, or leave it
record OfOne (ls : List Lowering) (penalty : ℕ) (s : Sort) (day : ℕ) (is : List Interval) (rate : ℕ) : Type 0 where
  one : Interval
  there : Contains is one
  lasts : in_force day one ≡ true
  rate_is : rate ≡ capped ls s day (record { rate = penalty; from = one.begins })

after-one : (ls : List Lowering) (penalty : ℕ) (s : Sort) (day : ℕ) (i : Interval) (is : List Interval) (rate : ℕ) → OfOne ls penalty s day is rate → OfOne ls penalty s day (i ∷ is) rate
after-one ls penalty s day i is rate o = let c = o.there in record { one = o.one; there = (suc c.0, omega (arith, c.1), c.2); lasts = o.lasts; rate_is = o.rate_is }

raised-by : (ls : List Lowering) (penalty : ℕ) (s : Sort) (day : ℕ) (is : List Interval) (base : ℕ)
    → (fold (with_penalty ls penalty s day) base (starts day is) ≡ base) ⊎ OfOne ls penalty s day is (fold (with_penalty ls penalty s day) base (starts day is))
unfolding starts
raised-by ls penalty s day [] base = inl refl
raised-by ls penalty s day (i ∷ is) base = by (in_force day i) refl (λ b. raised-by ls penalty s day is b)
  where
    greater : (a b x : ℕ) → x ≡ max a b → (x ≡ a) ⊎ (x ≡ b)
    greater a b x e = pick (cases_lt a b)
      where
        pick : (a < b) ⊎ (b ≤ a) → (x ≡ a) ⊎ (x ≡ b)
        pick (inl l) = inr (omega arith)
        pick (inr l) = inl (omega arith)

    chosen : in_force day i ≡ true → (x : ℕ) → (x ≡ base) ⊎ (x ≡ capped ls s day (record { rate = penalty; from = i.begins })) → (x ≡ base) ⊎ OfOne ls penalty s day (i ∷ is) x
    chosen f x (inl e) = inl e
    chosen f x (inr e) = inr (record { one = i; there = (zero, omega arith, refl); lasts = f; rate_is = e })

    rest-of : in_force day i ≡ true → (x : ℕ) → (x ≡ max base (capped ls s day (record { rate = penalty; from = i.begins }))) ⊎ OfOne ls penalty s day is x → (x ≡ base) ⊎ OfOne ls penalty s day (i ∷ is) x
    rest-of f x (inl e) = chosen f x (greater base (capped ls s day (record { rate = penalty; from = i.begins })) x e)
    rest-of f x (inr o) = inr (after-one ls penalty s day i is x o)

    left-out : (x : ℕ) → (x ≡ base) ⊎ OfOne ls penalty s day is x → (x ≡ base) ⊎ OfOne ls penalty s day (i ∷ is) x
    left-out x (inl e) = inl e
    left-out x (inr o) = inr (after-one ls penalty s day i is x o)

    by : (t : Bool) → in_force day i ≡ t
        → ((b : ℕ) → (fold (with_penalty ls penalty s day) b (filter_map (start_of day) is) ≡ b) ⊎ OfOne ls penalty s day is (fold (with_penalty ls penalty s day) b (filter_map (start_of day) is)))
        → (fold (with_penalty ls penalty s day) base (cons_option (cond t (Some i.begins) None) (filter_map (start_of day) is)) ≡ base)
        ⊎ OfOne ls penalty s day (i ∷ is) (fold (with_penalty ls penalty s day) base (cons_option (cond t (Some i.begins) None) (filter_map (start_of day) is)))
    by true f r = rest-of f _ (r (max base (capped ls s day (record { rate = penalty; from = i.begins }))))
    by false f r = left-out _ (r base)

above-base : (ls : List Lowering) (penalty : ℕ) (s : Sort) (day : ℕ) (ds : List ℕ) (base : ℕ) → base ≤ fold (with_penalty ls penalty s day) base ds
above-base ls penalty s day [] base = omega arith
above-base ls penalty s day (d ∷ ds) base =
    let rest = above-base ls penalty s day ds (with_penalty ls penalty s day base d) in
    omega (arith, rest)

above-each : (ls : List Lowering) (penalty : ℕ) (s : Sort) (day : ℕ) (is : List Interval) (i : Interval) (base : ℕ) → Contains is i → in_force day i ≡ true
    → capped ls s day (record { rate = penalty; from = i.begins }) ≤ fold (with_penalty ls penalty s day) base (starts day is)
unfolding starts
above-each ls penalty s day [] i base (k, l, e) f = absurd (omega arith)
above-each ls penalty s day (x ∷ xs) i base (zero, l, e) f = by (in_force day x) (ap (in_force day) e ∙ f)
  where
    by : (t : Bool) → t ≡ true → capped ls s day (record { rate = penalty; from = i.begins }) ≤ fold (with_penalty ls penalty s day) base (cons_option (cond t (Some x.begins) None) (filter_map (start_of day) xs))
    by true g =
        let rest = above-base ls penalty s day (filter_map (start_of day) xs) (max base (capped ls s day (record { rate = penalty; from = x.begins }))) in
        let same : capped ls s day (record { rate = penalty; from = x.begins }) ≡ capped ls s day (record { rate = penalty; from = i.begins }) = ap (λ (y : Interval). capped ls s day (record { rate = penalty; from = y.begins })) e in
        omega (arith, rest, same)
    by false g = absurd (cc)
above-each ls penalty s day (x ∷ xs) i base (suc k, l, e) f = by (in_force day x) (λ b. above-each ls penalty s day xs i b (k, omega arith, e) f)
  where
    by : (t : Bool) → ((b : ℕ) → capped ls s day (record { rate = penalty; from = i.begins }) ≤ fold (with_penalty ls penalty s day) b (filter_map (start_of day) xs))
        → capped ls s day (record { rate = penalty; from = i.begins }) ≤ fold (with_penalty ls penalty s day) base (cons_option (cond t (Some x.begins) None) (filter_map (start_of day) xs))
    by true r = r _
    by false r = r base

-- a penalty that has begun by a day, and is in force on a later one, is in force on that day
was-in-force : (day later : ℕ) (i : Interval) → day ≤ later → leb i.begins day ≡ true → in_force later i ≡ true → in_force day i ≡ true
was-in-force day later i h f e = let here = lasted i.last (right (leb i.begins later) (lasts later i.last) e) in rw (f, here) refl
  where
    lasted : (last : Option ℕ) → lasts later last ≡ true → lasts day last ≡ true
    lasted None e = refl
    lasted (Some last) e = let l = low-is later last e in is-low day last (omega arith)

    right : (x y : Bool) → x && y ≡ true → y ≡ true
    right true y e = e
    right false y e = cc

-- ---- the rate of a segment past a plan's period
-- of a rate: at most its base, whatever penalties are in force; or that of one of them
abbrev base_rate : List IndexRow → Rates → ℕ → SegmentTerms → ℕ
base_rate rows r day g = capped r.lowerings (bears_as g) day (own (index_for r.variable rows day) r.segments day g)

abbrev ByOne : List IndexRow → Rates → ℕ → SegmentTerms → Type 0
ByOne rows r day g = OfOne r.lowerings r.penalty (bears_as g) day r.penalties (lasting_rate rows r day g)

parted : (rows : List IndexRow) (r : Rates) (day : ℕ) (g : SegmentTerms) → (lasting_rate rows r day g ≡ base_rate rows r day g) ⊎ ByOne rows r day g
parted rows r day g = raised-by r.lowerings r.penalty (bears_as g) day r.penalties (base_rate rows r day g)

-- a penalty that was in force on the earlier day too gave no less then
no-higher : (rows : List IndexRow) (r : Rates) (day later : ℕ) (g : SegmentTerms) → day ≤ later → (o : ByOne rows r later g) → leb (o.one).begins day ≡ true → lasting_rate rows r later g ≤ lasting_rate rows r day g
no-higher rows r day later g h o f =
    let i = o.one in
    let was = was-in-force day later i h f o.lasts in
    let up = above-each r.lowerings r.penalty (bears_as g) day r.penalties i (base_rate rows r day g) o.there was in
    let down = capped-falls r.lowerings (bears_as g) day later (record { rate = r.penalty; from = i.begins }) h in
    let is = o.rate_is in
    omega (arith, up, down, is)

-- what a rate on a later day may be, with these penalties, by the rates of both days
record NewPenalty (rows : List IndexRow) (r : Rates) (day later : ℕ) (g : SegmentTerms) : Type 0 where
  one : ByOne rows r later g
  after : day < (one.one).begins

by-begin : (rows : List IndexRow) (r : Rates) (day later : ℕ) (g : SegmentTerms) → day ≤ later → ByOne rows r later g → (lasting_rate rows r later g ≤ lasting_rate rows r day g) ⊎ NewPenalty rows r day later g
by-begin rows r day later g h o = by (leb (o.one).begins day) refl
  where
    by : (t : Bool) → leb (o.one).begins day ≡ t → (lasting_rate rows r later g ≤ lasting_rate rows r day g) ⊎ NewPenalty rows r day later g
    by true e = inl (no-higher rows r day later g h o e)
    by false e = inr (record { one = o; after = high-is (o.one).begins day e })

-- from own rates that are near each other
near : (rows : List IndexRow) (r : Rates) (day later more : ℕ) (g : SegmentTerms) → day ≤ later
    → Within more (own (index_for r.variable rows later) r.segments later g) (own (index_for r.variable rows day) r.segments day g)
    → (lasting_rate rows r later g ≤ lasting_rate rows r day g + more) ⊎ NewPenalty rows r day later g
near rows r day later more g h w = by (parted rows r later g)
  where
    plus : (lasting_rate rows r later g ≤ lasting_rate rows r day g) ⊎ NewPenalty rows r day later g → (lasting_rate rows r later g ≤ lasting_rate rows r day g + more) ⊎ NewPenalty rows r day later g
    plus (inl l) = inl (omega (arith, l))
    plus (inr n) = inr n

    by : (lasting_rate rows r later g ≡ base_rate rows r later g) ⊎ ByOne rows r later g → (lasting_rate rows r later g ≤ lasting_rate rows r day g + more) ⊎ NewPenalty rows r day later g
    by (inl e) =
        let base = within-capped r.lowerings (bears_as g) day later more (own (index_for r.variable rows later) r.segments later g) (own (index_for r.variable rows day) r.segments day g) h w in
        let up = above-base r.lowerings r.penalty (bears_as g) day (starts day r.penalties) (base_rate rows r day g) in
        inl (omega (arith, e, base, up))
    by (inr o) = plus (by-begin rows r day later g h o)

-- ---- vintages
own-vintage : (i : Option ℕ) (day : ℕ) (all : List SegmentTerms) (g : SegmentTerms) → is_plan g ≡ false → own i all day g ≡ begun_of i (last_that (bears_in day g.sort g.id) all)
own-vintage i day all g e = rw e refl

-- the rate of the later day follows the index, as the law has it
record FollowsUp (rows : List IndexRow) (r : Rates) (day later : ℕ) (g : SegmentTerms) : Type 0 where
  variable_is : r.variable ≡ true
  follows : is_of_the_opening (last_that (bears_in later g.sort g.id) r.segments) ≡ true
  rose : unwrap_or (index_on rows day) 0 < unwrap_or (index_on rows later) 0
  most : lasting_rate rows r later g ≤ lasting_rate rows r day g + (unwrap_or (index_on rows later) 0 - unwrap_or (index_on rows day) 0)

abbrev Bounded : List IndexRow → Rates → ℕ → ℕ → SegmentTerms → Type 0
Bounded rows r day later g = (lasting_rate rows r later g ≤ lasting_rate rows r day g) ⊎ (FollowsUp rows r day later g ⊎ NewPenalty rows r day later g)

same-vintage : (rows : List IndexRow) (r : Rates) (day later : ℕ) (g : SegmentTerms) → AreByNumber 2 r.segments → AreSettled day r.segments → Contains r.segments g → g.begins ≤ day → day ≤ later → is_plan g ≡ false
    → leb g.effective later ≡ leb g.effective day → Bounded rows r day later g
same-vintage rows r day later g n s c begun h no-plan e =
    by (moves r.variable rows day later (last_that (bears_in later g.sort g.id) r.segments))
  where
    last : last_that (bears_in later g.sort g.id) r.segments ≡ last_that (bears_in day g.sort g.id) r.segments
    last =
        last-same (bears_in day g.sort g.id) (bears_in later g.sort g.id) r.segments
        (All-weaker (Contains r.segments) (λ v. bears_in later g.sort g.id v ≡ bears_in day g.sort g.id v) (bears-same day later r.segments g h n s c no-plan begun e) r.segments (All-contains_itself r.segments))

    owned : (more : ℕ) → Within more (begun_of (index_for r.variable rows later) (last_that (bears_in later g.sort g.id) r.segments)) (begun_of (index_for r.variable rows day) (last_that (bears_in later g.sort g.id) r.segments))
        → Within more (own (index_for r.variable rows later) r.segments later g) (own (index_for r.variable rows day) r.segments day g)
    owned more w =
        let one = own-vintage (index_for r.variable rows later) later r.segments g no-plan in
        let two = own-vintage (index_for r.variable rows day) day r.segments g no-plan in
        let moved = ap (begun_of (index_for r.variable rows day)) last in
        subst (λ b. Within more b (own (index_for r.variable rows day) r.segments day g)) (sym one)
        (subst (λ b. Within more (begun_of (index_for r.variable rows later) (last_that (bears_in later g.sort g.id) r.segments)) b) (moved ∙ sym two) w)

    falls : (lasting_rate rows r later g ≤ lasting_rate rows r day g + 0) ⊎ NewPenalty rows r day later g → Bounded rows r day later g
    falls (inl l) = inl (omega (arith, l))
    falls (inr p) = inr (inr p)

    rises : (m : Moves r.variable rows day later (last_that (bears_in later g.sort g.id) r.segments))
        → (lasting_rate rows r later g ≤ lasting_rate rows r day g + (unwrap_or (index_on rows later) 0 - unwrap_or (index_on rows day) 0)) ⊎ NewPenalty rows r day later g → Bounded rows r day later g
    rises m (inl l) = inr (inl (record { variable_is = m.variable_is; follows = m.follows; rose = m.rose; most = l }))
    rises m (inr p) = inr (inr p)

    by : Within 0 (begun_of (index_for r.variable rows later) (last_that (bears_in later g.sort g.id) r.segments)) (begun_of (index_for r.variable rows day) (last_that (bears_in later g.sort g.id) r.segments))
        ⊎ Moves r.variable rows day later (last_that (bears_in later g.sort g.id) r.segments) → Bounded rows r day later g
    by (inl w) = falls (near rows r day later 0 g h (owned 0 w))
    by (inr m) = rises m (near rows r day later (unwrap_or (index_on rows later) 0 - unwrap_or (index_on rows day) 0) g h (owned (unwrap_or (index_on rows later) 0 - unwrap_or (index_on rows day) 0) m.within))

-- ---- a notice that took effect in between
-- once its own rate has taken effect, a balance bears that of its own vintage
sort-itself : (s : Sort) → is_sort s s ≡ true
sort-itself sort.Credit = refl
sort-itself sort.Held = refl
sort-itself sort.Purchase = refl
sort-itself sort.Cash = refl
sort-itself sort.Transfer = refl
sort-itself sort.Promo = refl
sort-itself sort.Deferred = refl

bears-itself : (day : ℕ) (g : SegmentTerms) → g.begins ≤ day → g.effective ≤ day → bears_in day g.sort g.id g ≡ true
bears-itself day g begun took =
    let a = sort-itself g.sort in
    let b = is-low g.id g.id (omega arith) in
    let c = is-low g.begins day begun in
    let d = is-low g.effective day took in
    rw (a, b, c, d) refl

last-itself : (day m : ℕ) (all : List SegmentTerms) (g : SegmentTerms) → AreByNumber m all → Contains all g → bears_in day g.sort g.id g ≡ true → last_that (bears_in day g.sort g.id) all ≡ Some g
unfolding AreByNumber
last-itself day m [] g n (k, l, e) b = absurd (omega arith)
last-itself day m (x ∷ xs) g (i, n) (zero, l, e) b =
    let low : g.id < suc m = let same = ap (λ (y : SegmentTerms). y.id) e in omega (arith, i, same) in
    let none = none-later day g.id (suc m) g.sort xs n low in
    let it = subst (λ (y : SegmentTerms). bears_in day g.sort g.id y ≡ true) (sym e) b in
    rw (none, it) (ap (λ (y : SegmentTerms). Some y) e)
last-itself day m (x ∷ xs) g (i, n) (suc k, l, e) b =
    let rest = last-itself day (suc m) xs g n (k, omega arith, e) b in
    rw rest refl

own-rate : (i : Option ℕ) (g : SegmentTerms) → is_opening g ≡ false → rate_with i g ≡ g.rate
own-rate None g e = refl
own-rate (Some i) g e = rw e refl

took-base : (rows : List IndexRow) (r : Rates) (later : ℕ) (g : SegmentTerms) → AreByNumber 2 r.segments → Contains r.segments g → is_plan g ≡ false → is_opening g ≡ false → g.begins ≤ later → g.effective ≤ later
    → own (index_for r.variable rows later) r.segments later g ≡ record { rate = g.rate; from = g.effective }
took-base rows r later g n c no-plan added begun took =
    own-vintage (index_for r.variable rows later) later r.segments g no-plan
    ∙ (ap (begun_of (index_for r.variable rows later)) (last-itself later 2 r.segments g n c (bears-itself later g begun took))
    ∙ ap (λ (rate : ℕ). record { rate = rate; from = g.effective }) (own-rate (index_for r.variable rows later) g added))

-- ---- all cases, by the penalties of the later day
module _ (history : List Kept) (issued : List IssuedRow) (shared : SharedRows) (day later : ℕ) (g : SegmentTerms) (notices : AreNotices history) (opened : (anchor_of history).opened ≤ day)
    (h : day ≤ later) (there : Contains (segments_on history issued shared day) g) (begun : g.begins ≤ day) where
  abbrev rated : Rates
  rated = rates_of shared.holidays history (book history issued shared later).penalties

  every : Contains rated.segments g
  every = segments_of_a_day.stay history issued shared day g there

  early : rate_of shared.index rated day g ≡ rate_at history issued shared day g
  early = rates_later history issued shared day later g h

  late : rate_of shared.index rated later g ≡ rate_at history issued shared later g
  late = rates_later history issued shared later later g (omega arith)

  abbrev Law : Type 0
  Law =
      (rate_at history issued shared later g ≤ rate_at history issued shared day g)
      ⊎ (RoseWithIndex history issued shared day later g
      ⊎ (IsAfterPlan history issued shared day later g ⊎ (IsOfItsNotice history issued shared day later g ⊎ IsOfAPenalty history issued shared day later g)))

  of-one : rate_of shared.index rated later g ≡ lasting_rate shared.index rated later g → (o : ByOne shared.index rated later g) → (day < (o.one).begins) ⊎ HasEnded day later g → IsOfAPenalty history issued shared day later g
  of-one is o fresh =
      let b : Begun = record { rate = (terms_of history).penalty; from = (o.one).begins } in
      let low = capped-low (lowerings (posts_of history shared)) (bears_as g) later b in
      let same = o.rate_is in
      let rate : rate_at history issued shared later g ≤ capped (lowerings (posts_of history shared)) (bears_as g) later (record { rate = (terms_of history).penalty; from = (o.one).begins }) = let e = late in omega (arith, same, is, e) in
      record {
        penalty = o.one;
        is = o.there;
        lasts = o.lasts;
        fresh = fresh;
        most = omega (arith, rate, low);
        lowered = keeps (posts_of history shared) g later (rate_at history issued shared later g) (record { rate = (terms_of history).penalty; from = (o.one).begins }) rate;
      }

  new-one : rate_of shared.index rated later g ≡ lasting_rate shared.index rated later g → NewPenalty shared.index rated day later g → Law
  new-one is n = inr (inr (inr (inr (of-one is n.one (inl n.after)))))

  -- a vintage
  from-bounded : rate_of shared.index rated day g ≡ lasting_rate shared.index rated day g → rate_of shared.index rated later g ≡ lasting_rate shared.index rated later g → is_plan g ≡ false
      → Bounded shared.index rated day later g → Law
  from-bounded d l no-plan (inl low) = let a = early in let b = late in inl (omega (arith, low, d, l, a, b))
  from-bounded d l no-plan (inr (inl f)) =
      let a = early in
      let b = late in
      let most = f.most in
      inr (inl (record {
        index = record { variable = f.variable_is; vintage = no-plan; follows = f.follows; rose = f.rose };
        most = omega (arith, most, d, l, a, b);
      }))
  from-bounded d l no-plan (inr (inr n)) = new-one l n

  is-added : day < g.effective → is_opening g ≡ false
  is-added after =
      let listed = subst (λ (gs : List SegmentTerms). Contains gs g) (segments-are (anchor_of history) (terms_of history) shared.holidays history) every in
      let added = opened-or-added (anchor_of history).opened (terms_of history) (added_from 1 5 history) g listed (omega (arith, opened, after)) in
      let high = number-above 5 (added_from 1 5 history) g (added-by-number 1 5 history) added in
      is-high (suc g.id) 5 (omega (arith, high))

  took-effect : rate_of shared.index rated day g ≡ lasting_rate shared.index rated day g → rate_of shared.index rated later g ≡ lasting_rate shared.index rated later g → is_plan g ≡ false
      → day < g.effective → g.effective ≤ later → Law
  took-effect d l no-plan after by-then = by (parted shared.index rated later g)
    where
      base : own (index_for rated.variable shared.index later) rated.segments later g ≡ record { rate = g.rate; from = g.effective }
      base = took-base shared.index rated later g (segments_of_a_day.numbers shared.holidays history) every no-plan (is-added after) (omega (arith, begun, h)) by-then

      noticed : lasting_rate shared.index rated later g ≡ base_rate shared.index rated later g → IsOfItsNotice history issued shared day later g
      noticed e =
          let moved = ap (capped rated.lowerings (bears_as g) later) base in
          let low = capped-low rated.lowerings (bears_as g) later (record { rate = g.rate; from = g.effective }) in
          let b = late in
          let rate : rate_at history issued shared later g ≤ capped rated.lowerings (bears_as g) later (record { rate = g.rate; from = g.effective }) = omega (arith, e, moved, l, b) in
          record {
            took = record { vintage = no-plan; after = after; by = by-then };
            most = omega (arith, rate, low);
            lowered = keeps (posts_of history shared) g later (rate_at history issued shared later g) (record { rate = g.rate; from = g.effective }) rate;
          }

      either : (lasting_rate shared.index rated later g ≤ lasting_rate shared.index rated day g) ⊎ NewPenalty shared.index rated day later g → Law
      either (inl low) = let a = early in let b = late in inl (omega (arith, low, d, l, a, b))
      either (inr n) = new-one l n

      by : (lasting_rate shared.index rated later g ≡ base_rate shared.index rated later g) ⊎ ByOne shared.index rated later g → Law
      by (inl e) = inr (inr (inr (inl (noticed e))))
      by (inr o) = either (by-begin shared.index rated day later g h o)

  vintage : is_plan g ≡ false → Law
  vintage no-plan = by (leb g.effective later) refl (leb g.effective day) refl
    where
      d : rate_of shared.index rated day g ≡ lasting_rate shared.index rated day g
      d = rate-vintage shared.index rated day g no-plan

      l : rate_of shared.index rated later g ≡ lasting_rate shared.index rated later g
      l = rate-vintage shared.index rated later g no-plan

      settled : AreSettled day rated.segments
      settled = subst (AreSettled day) (sym (segments-are (anchor_of history) (terms_of history) shared.holidays history)) (all-settled day history notices opened)

      same : leb g.effective later ≡ leb g.effective day → Law
      same e = from-bounded d l no-plan (same-vintage shared.index rated day later g (segments_of_a_day.numbers shared.holidays history) settled every begun h no-plan e)

      by : (t : Bool) → leb g.effective later ≡ t → (u : Bool) → leb g.effective day ≡ u → Law
      by true e true f = same (e ∙ sym f)
      by false e false f = same (e ∙ sym f)
      by true e false f = took-effect d l no-plan (high-is g.effective day f) (low-is g.effective later e)
      by false e true f = let a = high-is g.effective later e in let b = low-is g.effective day f in absurd (omega (arith, a, b, h))

  -- a plan
  plan-own : (i : Option ℕ) (on : ℕ) (all : List SegmentTerms) → is_plan g ≡ true → own i all on g ≡ record { rate = g.after; from = after_end g.ends }
  plan-own i on all e = rw e refl

  plan-ended : is_plan g ≡ true → (end : ℕ) → g.ends ≡ Some end → day ≤ end → end < later → rate_of shared.index rated later g ≡ lasting_rate shared.index rated later g → Law
  plan-ended plan end ends lasted over l = by (parted shared.index rated later g)
    where
      ended : HasEnded day later g
      ended = record { plan = plan; end = end; ends = ends; lasted = lasted; over = over }

      base : own (index_for rated.variable shared.index later) rated.segments later g ≡ record { rate = g.after; from = end + 1 }
      base = plan-own (index_for rated.variable shared.index later) later rated.segments plan ∙ ap (λ (o : Option ℕ). record { rate = g.after; from = after_end o }) ends

      after-plan : lasting_rate shared.index rated later g ≡ base_rate shared.index rated later g → IsAfterPlan history issued shared day later g
      after-plan e =
          let moved = ap (capped rated.lowerings (bears_as g) later) base in
          let low = capped-low rated.lowerings (bears_as g) later (record { rate = g.after; from = end + 1 }) in
          let b = late in
          let rate : rate_at history issued shared later g ≤ capped rated.lowerings (bears_as g) later (record { rate = g.after; from = end + 1 }) = omega (arith, e, moved, l, b) in
          record {
            ended = record { plan = plan; end = end; ends = ends; lasted = lasted; over = over };
            most = omega (arith, rate, low);
            lowered = keeps (posts_of history shared) g later (rate_at history issued shared later g) (record { rate = g.after; from = end + 1 }) rate;
          }

      by : (lasting_rate shared.index rated later g ≡ base_rate shared.index rated later g) ⊎ ByOne shared.index rated later g → Law
      by (inl e) = inr (inr (inl (after-plan e)))
      by (inr o) = inr (inr (inr (inr (of-one l o (inr ended)))))

  plan : is_plan g ≡ true → Law
  plan is = by (is_over g.ends later) refl (is_over g.ends day) refl
    where
      both : is_over g.ends later ≡ true → is_over g.ends day ≡ true → (lasting_rate shared.index rated later g ≤ lasting_rate shared.index rated day g + 0) ⊎ NewPenalty shared.index rated day later g → Law
      both e f (inl low) =
          let a = early in
          let b = late in
          let d = rate-over shared.index rated day g begun f in
          let l = rate-over shared.index rated later g (omega (arith, begun, h)) e in
          inl (omega (arith, low, d, l, a, b))
      both e f (inr n) = new-one (rate-over shared.index rated later g (omega (arith, begun, h)) e) n

      still : Within 0 (own (index_for rated.variable shared.index later) rated.segments later g) (own (index_for rated.variable shared.index day) rated.segments day g)
      still =
          let one = plan-own (index_for rated.variable shared.index later) later rated.segments is in
          let two = plan-own (index_for rated.variable shared.index day) day rated.segments is in
          subst (λ b. Within 0 b (own (index_for rated.variable shared.index day) rated.segments day g)) (sym one)
          (subst (λ b. Within 0 (record { rate = g.after; from = after_end g.ends }) b) (sym two) (record { from = refl; rate = omega arith }))

      ends-between : (o : Option ℕ) → g.ends ≡ o → is_over o later ≡ true → is_over o day ≡ false → Law
      ends-between None i e f = absurd (cc)
      ends-between (Some end) i e f =
          let a = low-is (suc end) later e in
          let b = high-is (suc end) day f in
          plan-ended is end i (omega (arith, b)) (omega (arith, a)) (rate-over shared.index rated later g (omega (arith, begun, h)) (ap (λ (o : Option ℕ). is_over o later) i ∙ e))

      still-over : (o : Option ℕ) → is_over o later ≡ false → is_over o day ≡ true → ⊥
      still-over None e f = cc
      still-over (Some end) e f = let a = high-is (suc end) later e in let b = low-is (suc end) day f in absurd (omega (arith, a, b, h))

      by : (t : Bool) → is_over g.ends later ≡ t → (u : Bool) → is_over g.ends day ≡ u → Law
      by true e true f = both e f (near shared.index rated day later 0 g h still)
      by true e false f = ends-between g.ends refl e f
      by false e false f =
          let a = early in
          let b = late in
          let d = rate-lasting shared.index rated day g begun is f in
          let l = rate-lasting shared.index rated later g (omega (arith, begun, h)) is e in
          inl (omega (arith, d, l, a, b))
      by false e true f = absurd (still-over g.ends e f)

  bounded : Law
  bounded = by (is_plan g) refl
    where
      by : (t : Bool) → is_plan g ≡ t → Law
      by true e = plan e
      by false e = vintage e

pub raises_are_bounded : RaisesAreBounded
raises_are_bounded history issued shared day later g notices opened h there begun = bounded history issued shared day later g notices opened h there begun
