-- The segments of an account: vintages of the three categories, and plans (12 CFR 1026.55(b)(1), (b)(3)).
-- Segment 0 is Credit and segment 1 is Held; the opening vintages are 2, 3 and 4. Rates are in basis points.
use Rattle.std.specs.Prelude.{ℕ, ◌+◌, Bool, true, false, ◌&&◌, ◌||◌, not, ◌==◌, nat_le, nat_lt, cond, map, List, [], ◌∷◌, ◌++◌, Option, Some, None}
use Rattle.std.specs.List.{find, filter_map}
use Rattle.std.specs.Option.{option_or}
use Rattle.card_events.specs.declared.anchor.Anchor.{Anchor}
use Rattle.card_events.specs.History.{CorrectedPost}
use Rattle.card_events.specs.declared.post.Category.{Category}
use Rattle.card_events.specs.declared.post.Category.TheVariants as category
use Rattle.card_events.specs.declared.post.Place.{Place}
use Rattle.card_events.specs.declared.post.Place.TheVariants as place
use Rattle.card_events.specs.declared.post.PlanKind.{PlanKind}
use Rattle.card_events.specs.declared.post.PlanKind.TheVariants as plan
use Rattle.card_events.specs.declared.post.Post.{Post}
use Rattle.card_events.specs.declared.post.Post.TheVariants as post
use Rattle.card_events.specs.declared.post.Terms.{Terms}
use Rattle.card_model.specs.declared.segment.Segment.{Segment}
use Rattle.card_model.specs.declared.segment.Sort.{Sort}
use Rattle.card_model.specs.declared.segment.Sort.TheVariants as sort

-- A segment with its terms: its rate, the day on which that rate takes effect and, of a plan, the rate after its end
pub record SegmentTerms : Type 0 where
  pub id : ℕ
  pub sort : Sort
  pub post : ℕ
  pub begins : ℕ
  pub ends : Option ℕ
  pub rate : ℕ
  pub effective : ℕ
  pub after : ℕ

-- the sorts of two segments are the same
abbrev pub is_sort : Sort → Sort → Bool
is_sort sort.Credit sort.Credit = true
is_sort sort.Held sort.Held = true
is_sort sort.Purchase sort.Purchase = true
is_sort sort.Cash sort.Cash = true
is_sort sort.Transfer sort.Transfer = true
is_sort sort.Promo sort.Promo = true
is_sort sort.Deferred sort.Deferred = true
is_sort _ _ = false

-- the sort of a plan, of either kind
abbrev pub is_plan_sort : Sort → Bool
is_plan_sort s = is_sort sort.Promo s || is_sort sort.Deferred s

-- a plan
abbrev pub is_plan : SegmentTerms → Bool
is_plan g = is_plan_sort g.sort

-- the sort of a category's vintages
abbrev pub sort_of_category : Category → Sort
sort_of_category category.Purchase = sort.Purchase
sort_of_category category.Cash = sort.Cash
sort_of_category category.Transfer = sort.Transfer

-- the sort of a plan's segment
abbrev pub sort_of_plan : PlanKind → Sort
sort_of_plan plan.Promo = sort.Promo
sort_of_plan plan.Deferred = sort.Deferred

-- a vintage that stands from the opening day on; its post is the first
abbrev pub opening_vintage : ℕ → Sort → ℕ → ℕ → SegmentTerms
opening_vintage id s opened rate =
    record { id = id; sort = s; post = 1; begins = opened; ends = None; rate = rate; effective = opened; after = 0 }

-- segments 2, 3 and 4, at the rates of the terms
abbrev pub opening_vintages : ℕ → Terms → List SegmentTerms
opening_vintages opened terms =
    opening_vintage 2 sort.Purchase opened terms.purchase ∷ opening_vintage 3 sort.Cash opened terms.cash
    ∷ opening_vintage 4 sort.Transfer opened terms.transfer ∷ []

-- the segment that post n adds. A Notice's rate is that of transactions from the 15th day after it on (12 CFR 1026.55(b)(3))
abbrev pub segment_of : ℕ → ℕ → Post → Option SegmentTerms
segment_of id n (post.Plan day k rate end after) =
    Some (record { id = id; sort = sort_of_plan k; post = n; begins = day; ends = Some end; rate = rate; effective = day; after = after })
segment_of id n (post.Notice day c rate effective) =
    Some (record { id = id; sort = sort_of_category c; post = n; begins = day + 15; ends = None; rate = rate; effective = effective; after = 0 })
segment_of id n _ = None

-- all segments but Credit and Held, by number
unfoldable pub segments : Anchor → Terms → List CorrectedPost → List SegmentTerms
segments a terms posts = opening_vintages a.opened terms ++ filter_map (λ p. segment_of p.segment p.number p.post) posts

-- a segment as the ledger keeps it
abbrev pub kept_segment : SegmentTerms → Segment
kept_segment g = record { sort = g.sort; post = g.post; begins = g.begins; ends = g.ends }

-- Credit and Held, which stand from the opening day on without an end
abbrev pub unbilled : Sort → ℕ → Segment
unbilled s opened = record { sort = s; post = 0; begins = opened; ends = None }

-- all segments of an account, by number
abbrev pub kept_segments : Anchor → Terms → List CorrectedPost → List Segment
kept_segments a terms posts = unbilled sort.Credit a.opened ∷ unbilled sort.Held a.opened ∷ map kept_segment (segments a terms posts)

-- the last that passes
abbrev pub last_that : {A : Type 0} → (A → Bool) → List A → Option A
last_that p [] = None
last_that p (x ∷ xs) = option_or (last_that p xs) (cond (p x) (Some x) None)

-- the number of a segment, else that of the opening Purchase vintage
abbrev pub id_of : Option SegmentTerms → ℕ
id_of None = 2
id_of (Some g) = g.id

-- the newest vintage of a sort that has begun by a day
abbrev pub newest : Sort → ℕ → List SegmentTerms → ℕ
newest s day all = id_of (last_that (λ g. is_sort s g.sort && nat_le g.begins day) all)

-- the segment of a plan
abbrev pub plan_segment : ℕ → List SegmentTerms → ℕ
plan_segment n all = id_of (find (λ g. (g.post == n) && is_plan g) all)

-- the segment that a charge on a place goes to on a day
abbrev pub segment_at : Place → ℕ → List SegmentTerms → ℕ
segment_at place.Purchase day all = newest sort.Purchase day all
segment_at place.Cash day all = newest sort.Cash day all
segment_at place.Transfer day all = newest sort.Transfer day all
segment_at (place.Plan n) day all = plan_segment n all

-- a segment of a credit's place, as it is kept: any vintage of the category, or the plan
abbrev pub is_kept_of : Place → Segment → Bool
is_kept_of place.Purchase s = is_sort sort.Purchase s.sort
is_kept_of place.Cash s = is_sort sort.Cash s.sort
is_kept_of place.Transfer s = is_sort sort.Transfer s.sort
is_kept_of (place.Plan n) s = (s.post == n) && is_plan_sort s.sort

-- the same of a segment with its terms
abbrev pub is_of_place : Place → SegmentTerms → Bool
is_of_place p g = is_kept_of p (kept_segment g)

-- ---- the period of a plan: from its day to its end
-- an end that lies before a day; what has no end is over
abbrev pub is_over : Option ℕ → ℕ → Bool
is_over None day = true
is_over (Some end) day = nat_lt end day

-- a Deferred in its period
abbrev pub is_deferred_in : ℕ → Segment → Bool
is_deferred_in day s = is_sort sort.Deferred s.sort && nat_le s.begins day && not (is_over s.ends day)

-- the same of a segment with its terms
abbrev pub is_deferred_on : ℕ → SegmentTerms → Bool
is_deferred_on day g = is_deferred_in day (kept_segment g)
