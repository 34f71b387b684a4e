-- The segments that posts add, as the ledger keeps them, and the segment of a plan among them.
use Rattle.std.specs.Prelude.{ℕ, suc, ◌≡◌, true, Bool, ◌&&◌, ◌==◌, nat_le, if◌then◌else◌, List, [], ◌∷◌, Option, length, option_map, pos, replicate}
use Rattle.std.specs.List.{All, cons_option}
use Rattle.card_events.specs.Dated.{is_dated_post}
use Rattle.card_events.specs.History.{anchor_of, corrected, terms_of}
use Rattle.card_events.specs.SharedRows.{SharedRows}
use Rattle.card_events.specs.declared.kept.Kept.{Kept}
use Rattle.card_events.specs.declared.post.Post.{Post}
use Rattle.card_model.specs.Cycles.{IssuedRow}
use Rattle.card_model.specs.Segments.{SegmentTerms, is_plan_sort, kept_segment, kept_segments, segment_of}
use Rattle.card_model.specs.declared.segment.Segment.{Segment}
use Rattle.card_rates.specs.Laws.{segments_on}
use Rattle.card_rates.specs.RateBooks.{Rates, rates_of}
use Rattle.card_segments.specs.Balances.{Balances}

-- all segments that the posts of an account add, by number. The holidays count for none of them
abbrev pub account_segments : List ℕ → List Kept → List Segment
account_segments holidays history = kept_segments (anchor_of history) (terms_of history) (corrected (anchor_of history) holidays history)

-- the segment that post n adds, if it adds one
abbrev pub kept_of : ℕ → Post → Option Segment
kept_of n p = option_map kept_segment (segment_of 0 n p)

-- those that these posts add, the first of which is post n
unfoldable pub kept_from : ℕ → List Kept → List Segment
kept_from n [] = []
kept_from n (k ∷ ks) = cons_option (kept_of n k.post) (kept_from (suc n) ks)

-- nothing is owed on any segment
abbrev pub AreUnused : Balances → Type 0
AreUnused b = b.balances ≡ replicate (length b.segments) (pos 0)

-- every day in the posts is a day of requests
abbrev pub ArePostsDated : List Kept → Type 0
ArePostsDated history = All (λ k. is_dated_post k.post ≡ true) history

-- the plan that a post began, by a day
abbrev pub is_plan_of : ℕ → ℕ → Segment → Bool
is_plan_of post today s = (s.post == post) && is_plan_sort s.sort && nat_le s.begins today

-- the number of the first such segment, where the first of these has number n; else that of the opening Purchase vintage
unfoldable pub plan_from : ℕ → ℕ → ℕ → List Segment → ℕ
plan_from post today n [] = 2
plan_from post today n (s ∷ ss) = let later = plan_from post today (suc n) ss in if is_plan_of post today s then n else later

-- ---- for every account
-- it holds of the segments that a day sees of each account whose segments are these
abbrev pub OfSeenSegments : ℕ → List Segment → (List SegmentTerms → Type 0) → Type 0
OfSeenSegments today kept P =
    (history : List Kept) (issued : List IssuedRow) (shared : SharedRows) → kept ≡ account_segments shared.holidays history → P (segments_on history issued shared today)

-- so it does of each account whose segments are also rated so
abbrev pub OfRatedSegments : ℕ → Rates → List Segment → (List SegmentTerms → Type 0) → Type 0
OfRatedSegments today rated kept P =
    (history : List Kept) (issued : List IssuedRow) (shared : SharedRows) → rated.segments ≡ (rates_of shared.holidays history []).segments → kept ≡ account_segments shared.holidays history
    → P (segments_on history issued shared today)
