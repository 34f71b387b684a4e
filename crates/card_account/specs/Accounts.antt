-- An account, as clauses see it, and what is read of it.
use Rattle.std.specs.Prelude.{◌≡◌, ◌≤◌, ◌<◌, ℕ, Bool, length, slice_index_or, ◌&&◌, ◌==◌, not, nat_lt, if◌then◌else◌, pos, List, Option, Some, None, ◌⊎◌}
use Rattle.std.specs.Option.{option_map, option_map_or}
use Rattle.card_account.specs.declared.owing.Owing.{Owing}
use Rattle.card_book.specs.Stands.{FoldedBook}
use Rattle.card_book.specs.Statements.{statement_on}
use Rattle.card_daily.specs.Given.{IsSound, ReachesToday, given_today}
use Rattle.card_daily.specs.declared.track.Statement.{Statement}
use Rattle.card_events.specs.Billing.{closing}
use Rattle.card_events.specs.Range.{last_calendar_day}
use Rattle.card_events.specs.History.{CorrectedPost, anchor_of, corrected}
use Rattle.card_events.specs.SharedRows.{SharedRows}
use Rattle.card_model.specs.Books.{Book}
use Rattle.card_model.specs.Caps.{row_for}
use Rattle.card_model.specs.Cycles.{Cycle, IssuedRow}
use Rattle.card_model.specs.Entries.{credit_balance, owed, owing}
use Rattle.card_model.specs.Deadlines.{credit_since}
use Rattle.card_model.specs.Folds.{cycle_at}
use Rattle.card_model.specs.Machine.{NamedAccount}
use Rattle.card_model.specs.Refusals.{Lists, Present, book_today}
use Rattle.card_model.specs.Sheets.{sheet_of}
use Rattle.card_replay.specs.Owes.{Late}
use Rattle.card_replay.specs.Replays.{Folding, IsReplay, MakesAllOrNone, MayReach, Replay, present_of}
use Rattle.card_replay.specs.Steps.{steps_to}
use Rattle.card_rates.specs.Segments.{account_segments}

-- the account as the machine has it, with the corrected list that is kept of it, whether there is room for one more post with its
-- statement, which statements are made and which are owed, and what is kept of its book
pub record OpenAccount : Type 0 where
  pub named : NamedAccount
  pub corrected : List CorrectedPost
  pub has_room : Bool
  pub late : Late
  pub folding : Folding

-- the corrected list is that of the posts under these holidays
abbrev pub IsCorrected : List ℕ → OpenAccount → Type 0
IsCorrected holidays a = a.corrected ≡ corrected (anchor_of a.named.lists.posts) holidays a.named.lists.posts

-- the account may be folded to the end of today
pub record MayBeFolded (today : ℕ) (shared : SharedRows) (a : OpenAccount) : Type 0 where
  pub stands : IsCorrected shared.holidays a
  pub sound : IsSound (given_today (present_of today shared a.named.lists))
  pub reached : ReachesToday (present_of today shared a.named.lists)

-- ---- its folding
-- the account without its name
abbrev pub replay_of : OpenAccount → Replay
replay_of a = record { lists = a.named.lists; corrected = a.corrected; has_room = a.has_room; late = a.late; folding = a.folding }

-- What always holds of it, under these shared rows, on a day that isn't before the one last reached
pub record IsAccount (today : ℕ) (shared : SharedRows) (a : OpenAccount) : Type 0 where
  pub replay : IsReplay shared (replay_of a)
  pub reach : MayReach today (replay_of a)

-- After a call that tells of it, it is the same account, and has reached today or the day that it had reached; of the statements that it
-- owed, all are made or none is
pub record IsTold (today : ℕ) (shared : SharedRows) (old new : OpenAccount) : Type 0 where
  pub named : new.named ≡ old.named
  pub corrected : new.corrected ≡ old.corrected
  pub account : IsAccount today shared new
  pub reached : (new.folding.reached ≡ today) ⊎ (new.folding.reached ≡ old.folding.reached)
  pub made : MakesAllOrNone old.late new.late

-- and a call that answers has reached today
pub record HasTold (today : ℕ) (shared : SharedRows) (old new : OpenAccount) : Type 0 where
  pub told : IsTold today shared old new
  pub reached : new.folding.reached ≡ today

-- of many accounts, one by one
pub record AreTold (today : ℕ) (shared : SharedRows) (old new : List OpenAccount) : Type 0 where
  pub count : length new ≡ length old
  pub each : (i : ℕ) (d : OpenAccount) → i < length old → IsTold today shared (slice_index_or old i d) (slice_index_or new i d)

-- what was folded of it is its book of today
pub record IsFoldedToday (today : ℕ) (shared : SharedRows) (lists : Lists) (f : FoldedBook) : Type 0 where
  pub book : f.book ≡ book_today (present_of today shared lists)
  pub since : f.since ≡ credit_since (book_today (present_of today shared lists)).entries (anchor_of lists.posts).opened today
  pub segments : f.segments ≡ account_segments shared.holidays lists.posts

-- the steps that bring it to today
abbrev pub steps_of : ℕ → SharedRows → OpenAccount → ℕ
steps_of today shared a = steps_to today shared (replay_of a)

-- ---- what is read of it
-- what is owed in all, the credit balance, and what is held in dispute (12 CFR 1026.11(a), .13)
abbrev pub owing_in : Book → Owing
owing_in b = record { owed = owed b.entries; credit = pos (credit_balance b.entries); held = pos (owing 1 b.entries) }

-- an issued row as a statement (12 CFR 1026.5(b)(2), .7(b))
abbrev pub statement_of : IssuedRow → Statement
statement_of r = record { cycle = r.statement; issue = r.day; sheet = r.sheet }

-- the statement of a cycle as it was issued
abbrev pub issued_statement : ℕ → List IssuedRow → Option Statement
issued_statement cycle issued = option_map statement_of (row_for cycle issued)

-- the day on which a cycle was issued, else its due date, so that no payment is due
abbrev pub issue_of : Option IssuedRow → Cycle → ℕ
issue_of issued c = option_map_or (λ r. r.day) issued c.due

-- a closed cycle as a statement of that day, with its sheet as it is now
abbrev pub restated_as : Present → Option IssuedRow → Cycle → Statement
restated_as now issued c =
    record { cycle = c; issue = issue_of issued c; sheet = sheet_of now.lists.posts now.lists.issued now.shared (issue_of issued c) c }

-- the cycle is closed before today
abbrev pub is_closed : ℕ → Lists → ℕ → Bool
is_closed today lists cycle = not (cycle == 0) && nat_lt (closing (anchor_of lists.posts) cycle) today

-- the statement of a cycle as the book of today has it, none where it isn't closed before today
unfoldable pub restated_statement : Present → ℕ → Option Statement
restated_statement now cycle =
    let closed = option_map (restated_as now (row_for cycle now.lists.issued)) (cycle_at cycle (book_today now).cycles) in
    if is_closed now.today now.lists cycle then closed else None

-- the statement is that of a cycle of the book of today, as if it were issued on a day
pub record IsRestatedOn (now : Present) (cycle day : ℕ) : Type 0 where
  pub small : cycle ≤ last_calendar_day
  pub statement : restated_statement now cycle ≡ option_map (statement_on (given_today now) day) (cycle_at cycle (book_today now).cycles)

-- the day as of which it is, where there is one
abbrev pub IsIssueOf : Present → ℕ → Option ℕ → Type 0
IsIssueOf now cycle None = restated_statement now cycle ≡ None
IsIssueOf now cycle (Some day) = IsRestatedOn now cycle day
