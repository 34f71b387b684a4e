-- A penalty rate begins only after sixty days' delinquency (12 CFR 1026.55(b)(4)), in the book of every day, for all lists of posts.
-- Days are day numbers, amounts cents.
use Rattle.std.specs.Prelude.{ℕ, ◌+◌, ◌≡◌, ◌≤◌, ◌<◌, List}
use Rattle.std.specs.List.{All, Contains}
use Rattle.card_events.specs.History.{CorrectedPost, anchor_of, corrected}
use Rattle.card_events.specs.SharedRows.{SharedRows}
use Rattle.card_events.specs.declared.kept.Kept.{Kept}
use Rattle.card_events.specs.declared.post.Post.TheVariants as post
use Rattle.card_model.specs.Cycles.{Cycle, IssuedRow}
use Rattle.card_model.specs.Folds.{book}
use Rattle.card_model.specs.Payments.{counted}
use Rattle.card_model.specs.declared.segment.Interval.{Interval}

-- A penalty rate begins 45 days after its post was accepted. On the day of that acceptance some minimum payment had been due for more
-- than 60 days. Its statement had come 21 days before the due date or earlier. The payments credited since its closing, less those
-- returned by the day of acceptance, fell short of it. `posts` is the whole corrected list
pub record IsOfSixtyDays (issued : List IssuedRow) (posts : List CorrectedPost) (cycles : List Cycle) (i : Interval) : Type 0 where
  pub announced : CorrectedPost
  pub accepted : Contains posts announced
  pub is : announced.post ≡ post.Penalty
  pub begins : i.begins ≡ announced.accepted + 45
  pub cycle : Cycle
  pub closed : Contains cycles cycle
  pub statement : IssuedRow
  pub was_issued : Contains issued statement
  pub of_cycle : statement.cycle ≡ cycle.number
  pub in_time : statement.day + 21 ≤ cycle.due
  pub long_past : cycle.due + 60 < announced.accepted
  pub fell_short : counted posts (cycle.closing + 1) announced.accepted < cycle.minimum

-- so does every one in the book of every day
abbrev pub PenaltiesAreOfSixtyDays : Type 0
PenaltiesAreOfSixtyDays =
    (history : List Kept) (issued : List IssuedRow) (shared : SharedRows) (day : ℕ)
    → All (IsOfSixtyDays issued (corrected (anchor_of history) shared.holidays history) (book history issued shared day).cycles)
    (book history issued shared day).penalties
