-- How far a rate may rise (12 CFR 1026.55(a), (b)), for all lists of posts with accepted notices. Days are day numbers, rates basis
-- points.
use Rattle.std.specs.Prelude.{ℕ, ◌+◌, ◌-◌, ◌≡◌, ◌≤◌, ◌<◌, ◌⊎◌, Bool, true, if◌then◌else◌, List}
use Rattle.std.specs.List.{Contains}
use Rattle.card_events.specs.History.{CorrectedPost, anchor_of, corrected, terms_of}
use Rattle.card_events.specs.SharedRows.{SharedRows}
use Rattle.card_events.specs.declared.kept.Kept.{Kept}
use Rattle.card_events.specs.declared.post.Category.{Category}
use Rattle.card_events.specs.declared.post.Post.TheVariants as post
use Rattle.card_model.specs.Cycles.{IssuedRow}
use Rattle.card_model.specs.Folds.{book}
use Rattle.card_model.specs.Rates.{in_force}
use Rattle.card_model.specs.Segments.{SegmentTerms, is_plan, is_sort, sort_of_category}
use Rattle.card_model.specs.declared.segment.Interval.{Interval}
use Rattle.card_model.specs.declared.segment.Sort.TheVariants as sort
use Rattle.card_rates.specs.Laws.{segments_on}
use Rattle.card_rules.specs.IndexRates.{index_at}
use Rattle.card_rules.specs.Notices.{AreNotices}
use Rattle.card_rules.specs.Rises.{HasEnded, IndexRose, TookEffect, rate_at}

-- the corrected posts of an account
abbrev pub posts_of : List Kept → SharedRows → List CorrectedPost
posts_of history shared = corrected (anchor_of history) shared.holidays history

-- a Lower of a category counts for the balance: for a vintage the Lowers of its own category, for a plan those of purchases
abbrev pub is_lowered_with : SegmentTerms → Category → Bool
is_lowered_with g c = if is_plan g then is_sort sort.Purchase (sort_of_category c) else is_sort g.sort (sort_of_category c)

-- a rate that began on one day is, on another, no higher than any rate to which the issuer lowered it in between
abbrev pub KeepsToLowers : List CorrectedPost → SegmentTerms → ℕ → ℕ → ℕ → Type 0
KeepsToLowers posts g from to rate =
    (p : CorrectedPost) (day lowered : ℕ) (c : Category) → Contains posts p → p.post ≡ post.Lower day c lowered → is_lowered_with g c ≡ true → from ≤ day → day ≤ to
    → rate ≤ lowered

-- ---- the four bounds
-- the index rose that the rate follows, and the rate by no more (12 CFR 1026.55(b)(2))
pub record RoseWithIndex (history : List Kept) (issued : List IssuedRow) (shared : SharedRows) (day later : ℕ) (g : SegmentTerms) : Type 0 where
  pub index : IndexRose history shared day later g
  pub most : rate_at history issued shared later g ≤ rate_at history issued shared day g + (index_at shared later - index_at shared day)

-- the plan ended in between, and the rate is at most the one that was disclosed for the time after it (12 CFR 1026.55(b)(1))
pub record IsAfterPlan (history : List Kept) (issued : List IssuedRow) (shared : SharedRows) (day later : ℕ) (g : SegmentTerms) : Type 0 where
  pub ended : HasEnded day later g
  pub most : rate_at history issued shared later g ≤ g.after
  pub lowered : KeepsToLowers (posts_of history shared) g (ended.end + 1) later (rate_at history issued shared later g)

-- the notice of the vintage took effect in between, and the rate is at most the one of that notice (12 CFR 1026.55(b)(3))
pub record IsOfItsNotice (history : List Kept) (issued : List IssuedRow) (shared : SharedRows) (day later : ℕ) (g : SegmentTerms) : Type 0 where
  pub took : TookEffect day later g
  pub most : rate_at history issued shared later g ≤ g.rate
  pub lowered : KeepsToLowers (posts_of history shared) g g.effective later (rate_at history issued shared later g)

-- A penalty is in force on the later day, and the rate is at most the penalty rate of the terms (12 CFR 1026.55(b)(4)). That penalty
-- began after the one day, unless a plan, which no penalty reaches in its period, ended in between
pub record IsOfAPenalty (history : List Kept) (issued : List IssuedRow) (shared : SharedRows) (day later : ℕ) (g : SegmentTerms) : Type 0 where
  pub penalty : Interval
  pub is : Contains (book history issued shared later).penalties penalty
  pub lasts : in_force later penalty ≡ true
  pub fresh : (day < penalty.begins) ⊎ HasEnded day later g
  pub most : rate_at history issued shared later g ≤ (terms_of history).penalty
  pub lowered : KeepsToLowers (posts_of history shared) g penalty.begins later (rate_at history issued shared later g)

-- ---- the law
-- The rate of a segment that has begun by a day is, on a later day, at most what it was, or within one of these bounds
abbrev pub RaisesAreBounded : Type 0
RaisesAreBounded =
    (history : List Kept) (issued : List IssuedRow) (shared : SharedRows) (day later : ℕ) (g : SegmentTerms) → AreNotices history → (anchor_of history).opened ≤ day
    → day ≤ later → Contains (segments_on history issued shared day) g → g.begins ≤ day
    → (rate_at history issued shared later g ≤ rate_at history issued shared day g)
    ⊎ (RoseWithIndex history issued shared day later g
    ⊎ (IsAfterPlan history issued shared day later g ⊎ (IsOfItsNotice history issued shared day later g ⊎ IsOfAPenalty history issued shared day later g)))
