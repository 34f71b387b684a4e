-- The first year of an account (12 CFR 1026.55(b)(3)(iii)). Days are day numbers.
use Rattle.std.specs.Prelude.{ℕ, ◌≤◌, ◌<◌, ◌⊎◌, List}
use Rattle.std.specs.List.{All, Contains}
use Rattle.card_events.specs.History.{anchor_of}
use Rattle.card_events.specs.Later.{year_after}
use Rattle.card_events.specs.SharedRows.{SharedRows}
use Rattle.card_events.specs.declared.kept.Kept.{Kept}
use Rattle.card_events.specs.declared.post.Post.{Post}
use Rattle.card_events.specs.declared.post.Post.TheVariants as post
use Rattle.card_events.specs.declared.request.Request.{Request}
use Rattle.card_model.specs.Cycles.{IssuedRow}
use Rattle.card_model.specs.Folds.{book}
use Rattle.card_model.specs.Machine.{NamedAccount, run}
use Rattle.card_model.specs.Segments.{SegmentTerms}
use Rattle.card_rates.specs.Laws.{segments_on}
use Rattle.card_rules.specs.Notices.{AreNotices}
use Rattle.card_rules.specs.Rises.{HasBegun, HasEnded, IndexRose, rate_at}

-- the rate of a notice takes effect a year after the opening or later
abbrev pub IsAfterFirstYear : ℕ → Post → Type 0
IsAfterFirstYear opened (post.Notice given c rate effective) = year_after opened ≤ effective
IsAfterFirstYear opened _ = Unit {0}

abbrev pub KeepsFirstYear : List Kept → Type 0
KeepsFirstYear posts = All (λ k. IsAfterFirstYear (anchor_of posts).opened k.post) posts

-- So do all notices of every account, after every list of requests. If they do, three things alone can raise a rate in the first year:
-- a higher index, a plan that ended, and a penalty
pub record FirstYearKeepsItsRates : Type 0 where
  pub runs : (requests : List Request) → All (λ (x : NamedAccount). KeepsFirstYear x.lists.posts) (run requests).accounts
  pub rates :
      (history : List Kept) (issued : List IssuedRow) (shared : SharedRows) (day later : ℕ) (g : SegmentTerms) → AreNotices history → KeepsFirstYear history
      → (anchor_of history).opened ≤ day → day ≤ later → later < year_after (anchor_of history).opened → Contains (segments_on history issued shared day) g → g.begins ≤ day
      → rate_at history issued shared day g < rate_at history issued shared later g
      → IndexRose history shared day later g ⊎ (HasEnded day later g ⊎ HasBegun (book history issued shared later).penalties day later)
