-- The rate of a segment on a day, in basis points (12 CFR 1026.55(b)(1), (b)(2), (b)(3), (b)(4), .9(c)(2), .9(g)).
use Rattle.std.specs.Prelude.{ℕ, ◌+◌, Bool, true, false, ◌&&◌, not, nat_le, nat_lt, if◌then◌else◌, min, max, unwrap_or, List, Option, Some, None}
use Rattle.std.specs.List.{fold, filter_map}
use Rattle.std.specs.Option.{option_map}
use Rattle.card_events.specs.History.{CorrectedPost}
use Rattle.card_events.specs.Money.{rate_limit}
use Rattle.card_events.specs.SharedRows.{IndexRow}
use Rattle.card_events.specs.declared.post.Post.{Post}
use Rattle.card_events.specs.declared.post.Post.TheVariants as post
use Rattle.card_model.specs.Segments.{SegmentTerms, is_sort, is_plan, sort_of_category, last_that, is_over, is_deferred_on}
use Rattle.card_model.specs.declared.segment.Interval.{Interval}
use Rattle.card_model.specs.declared.segment.Sort.{Sort}
use Rattle.card_model.specs.declared.segment.Sort.TheVariants as sort

-- a rate, and the day on which it began
pub record Begun : Type 0 where
  pub rate : ℕ
  pub from : ℕ

-- a Lower, by the sort of the vintages that it caps from its day on
pub record Lowering : Type 0 where
  pub sort : Sort
  pub day : ℕ
  pub rate : ℕ

-- what a Lower caps
abbrev pub lowering_of : Post → Option Lowering
lowering_of (post.Lower day c rate) = Some (record { sort = sort_of_category c; day = day; rate = rate })
lowering_of _ = None

-- all Lowers
unfoldable pub lowerings : List CorrectedPost → List Lowering
lowerings posts = filter_map (λ p. lowering_of p.post) posts

-- the lesser of a rate and of a Lower of the sort whose day lies from one day to another
abbrev pub lowered_by : Sort → ℕ → ℕ → ℕ → Lowering → ℕ
lowered_by s from to rate l = if is_sort s l.sort && nat_le from l.day && nat_le l.day to then min rate l.rate else rate

-- the least of a rate and of the Lowers of its sort from the day on which it began
unfoldable pub capped : List Lowering → Sort → ℕ → Begun → ℕ
capped lowers s day b = fold (lowered_by s b.from day) b.rate lowers

-- ---- the index (12 CFR 1026.55(b)(2))
-- the index of a day: that of the row with the greatest day up to it
abbrev pub index_on : List IndexRow → ℕ → Option ℕ
index_on rows day = option_map (λ r. r.rate) (last_that (λ r. nat_le r.day day) rows)

-- the index that an account's opening rates follow on a day, none where they are fixed. A day before the first row has 0
abbrev pub index_for : Bool → List IndexRow → ℕ → Option ℕ
index_for false rows day = None
index_for true rows day = Some (unwrap_or (index_on rows day) 0)

-- ---- the own rate
-- a vintage of the sort, of this number or an older one, that has begun and whose rate has taken effect
abbrev pub bears_in : ℕ → Sort → ℕ → SegmentTerms → Bool
bears_in day s id v = is_sort s v.sort && nat_le v.id id && nat_le v.begins day && nat_le v.effective day

-- a vintage that stands from the opening on
abbrev pub is_opening : SegmentTerms → Bool
is_opening v = nat_lt v.id 5

-- the rate of a vintage: its own, or where the opening rates follow an index, of an opening vintage the margin on it, at most
-- 9,999
abbrev pub rate_with : Option ℕ → SegmentTerms → ℕ
rate_with None v = v.rate
rate_with (Some index) v = if is_opening v then min rate_limit (v.rate + index) else v.rate

-- the rate of a vintage, begun on its effective day
abbrev pub begun_of : Option ℕ → Option SegmentTerms → Begun
begun_of index None = record { rate = 0; from = 0 }
begun_of index (Some v) = record { rate = rate_with index v; from = v.effective }

-- the day after a plan's end
abbrev pub after_end : Option ℕ → ℕ
after_end None = 0
after_end (Some end) = end + 1

-- the own rate of a vintage, which is an older vintage's until its own takes effect, or of a plan past its end
abbrev pub own : Option ℕ → List SegmentTerms → ℕ → SegmentTerms → Begun
own index all day g =
    if is_plan g then record { rate = g.after; from = after_end g.ends } else begun_of index (last_that (bears_in day g.sort g.id) all)

-- the sort whose Lowers cap a segment: a plan past its end counts as Purchase
abbrev pub bears_as : SegmentTerms → Sort
bears_as g = if is_plan g then sort.Purchase else g.sort

-- ---- penalties
-- a penalty without an end, or with a last day from this one on
abbrev pub lasts : ℕ → Option ℕ → Bool
lasts day None = true
lasts day (Some last) = nat_le day last

-- a penalty that has begun and lasts
abbrev pub in_force : ℕ → Interval → Bool
in_force day i = nat_le i.begins day && lasts day i.last

-- the first day of a penalty in force
abbrev pub start_of : ℕ → Interval → Option ℕ
start_of day i = if in_force day i then Some i.begins else None

-- the days on which the penalties in force on a day began
unfoldable pub starts : ℕ → List Interval → List ℕ
starts day penalties = filter_map (start_of day) penalties

-- the greater of a rate and the penalty rate, lowered from the day on which the penalty began
abbrev pub with_penalty : List Lowering → ℕ → Sort → ℕ → ℕ → ℕ → ℕ
with_penalty lowers penalty s day rate from = max rate (capped lowers s day (record { rate = penalty; from = from }))

-- ---- the rate
-- in its period a Promo has its rate, and a Deferred ranks at 0
abbrev pub period_rate : SegmentTerms → ℕ
period_rate g = if is_sort sort.Promo g.sort then g.rate else 0

-- the rate of a segment on a day, where the opening rates follow this index, if any, and penalties that began on these days are
-- in force
unfoldable pub rate_on : Option ℕ → List Lowering → ℕ → List ℕ → List SegmentTerms → ℕ → SegmentTerms → ℕ
rate_on index lowers penalty began all day g =
    let lasting = fold (with_penalty lowers penalty (bears_as g) day) (capped lowers (bears_as g) day (own index all day g)) began in
    if is_plan g && nat_lt day g.begins then 0
    else (if is_plan g && not (is_over g.ends day) then period_rate g else lasting)

-- the rate at which a Deferred in its period accrues
abbrev pub accrual_rate : ℕ → SegmentTerms → Option ℕ
accrual_rate day g = if is_deferred_on day g then Some g.rate else None
