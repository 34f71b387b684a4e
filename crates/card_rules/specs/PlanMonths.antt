-- A temporary rate lasts six months or more (12 CFR 1026.55(b)(1)), for all lists of requests. Days are day numbers.
use Rattle.std.specs.Prelude.{ℕ, ◌≡◌, ◌≤◌, true, List}
use Rattle.std.specs.List.{All, Contains}
use Rattle.card_events.specs.History.{anchor_of}
use Rattle.card_events.specs.SharedRows.{SharedRows}
use Rattle.card_events.specs.declared.kept.Kept.{Kept}
use Rattle.card_events.specs.declared.post.Post.{Post}
use Rattle.card_events.specs.declared.post.Post.TheVariants as post
use Rattle.card_events.specs.declared.request.Request.{Request}
use Rattle.card_model.specs.Cycles.{IssuedRow}
use Rattle.card_model.specs.Machine.{NamedAccount, run}
use Rattle.card_model.specs.Segments.{SegmentTerms, is_plan}
use Rattle.card_rates.specs.Laws.{segments_on}
use Rattle.card_rules.specs.Months.{months_after}
use Rattle.card_rules.specs.Rises.{rate_at}

-- the last day of a plan isn't before the same day of the sixth month after its first
abbrev pub LastsSixMonths : Post → Type 0
LastsSixMonths (post.Plan day kind rate end after) = months_after 6 day ≤ end
LastsSixMonths _ = Unit {0}

abbrev pub PlansLast : List Kept → Type 0
PlansLast posts = All (λ k. LastsSixMonths k.post) posts

-- So do all plans of every account, after every list of requests. And where they do, the rate of a plan is one and the same on all days
-- of its first six months
pub record PlansLastSixMonths : Type 0 where
  pub runs : (requests : List Request) → All (λ (x : NamedAccount). PlansLast x.lists.posts) (run requests).accounts
  pub rates :
      (history : List Kept) (issued : List IssuedRow) (shared : SharedRows) (day later : ℕ) (g : SegmentTerms) → PlansLast history → (anchor_of history).opened ≤ day
      → day ≤ later → later ≤ months_after 6 g.begins → Contains (segments_on history issued shared day) g → is_plan g ≡ true → g.begins ≤ day
      → rate_at history issued shared later g ≡ rate_at history issued shared day g
