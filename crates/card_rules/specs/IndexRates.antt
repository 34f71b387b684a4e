-- Rates that follow an index (12 CFR 1026.55(b)(2)), for all lists of posts. Days are day numbers, rates basis points.
use Rattle.std.specs.Prelude.{ℕ, ◌+◌, ◌≡◌, ◌≤◌, ◌<◌, true, min, unwrap_or, List, []}
use Rattle.std.specs.List.{Contains}
use Rattle.card_events.specs.History.{anchor_of, corrected, is_variable}
use Rattle.card_events.specs.Money.{rate_limit}
use Rattle.card_events.specs.SharedRows.{SharedRows}
use Rattle.card_events.specs.declared.kept.Kept.{Kept}
use Rattle.card_model.specs.Cycles.{IssuedRow}
use Rattle.card_model.specs.Folds.{book}
use Rattle.card_model.specs.Rates.{index_on, is_opening, lowerings, starts}
use Rattle.card_model.specs.Segments.{SegmentTerms}
use Rattle.card_rates.specs.Laws.{segments_on}
use Rattle.card_rules.specs.Notices.{AreNotices}
use Rattle.card_rules.specs.Rises.{rate_at}

-- the index in force on a day
abbrev pub index_at : SharedRows → ℕ → ℕ
index_at shared day = unwrap_or (index_on shared.index day) 0

-- the margin of a vintage on the index in force, at most 99.99%
abbrev pub margin_and_index : SharedRows → ℕ → SegmentTerms → ℕ
margin_and_index shared day g = min rate_limit (g.rate + index_at shared day)

-- The rate of an opening vintage on a day from the opening on, whatever notices were given. Without a penalty in force it is the margin
-- and the index, or less if some rate was lowered. Without a penalty in force on a later day it is higher then only if the index is
pub record FollowsTheIndex (history : List Kept) (issued : List IssuedRow) (shared : SharedRows) (day : ℕ) (g : SegmentTerms) : Type 0 where
  pub most : starts day (book history issued shared day).penalties ≡ [] → rate_at history issued shared day g ≤ margin_and_index shared day g
  pub exact :
      starts day (book history issued shared day).penalties ≡ [] → lowerings (corrected (anchor_of history) shared.holidays history) ≡ []
      → rate_at history issued shared day g ≡ margin_and_index shared day g
  pub rises :
      (later : ℕ) → AreNotices history → day ≤ later → starts later (book history issued shared later).penalties ≡ []
      → rate_at history issued shared day g < rate_at history issued shared later g → index_at shared day < index_at shared later

abbrev pub RatesFollowTheIndex : Type 0
RatesFollowTheIndex =
    (history : List Kept) (issued : List IssuedRow) (shared : SharedRows) (day : ℕ) (g : SegmentTerms)
    → is_variable history ≡ true → (anchor_of history).opened ≤ day → Contains (segments_on history issued shared day) g → is_opening g ≡ true
    → FollowsTheIndex history issued shared day g
