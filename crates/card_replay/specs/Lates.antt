-- Statements of an account that aren't made yet. Days are day numbers.
use Rattle.std.specs.Prelude.{ℕ, ◌+◌, ◌≡◌, ◌<◌, ◌≤◌, List, ◌∷◌, [], ◌++◌, length}
use Rattle.std.specs.List.{All}
use Rattle.card_events.specs.Billing.{closing}
use Rattle.card_events.specs.History.{anchor_of, is_variable}
use Rattle.card_events.specs.Range.{last_request_day}
use Rattle.card_events.specs.SharedRows.{SharedRows}
use Rattle.card_events.specs.declared.anchor.Anchor.{Anchor}
use Rattle.card_events.specs.declared.kept.Kept.{Kept}
use Rattle.card_model.specs.CycleDays.{IsOpening}
use Rattle.card_model.specs.Cycles.{IssuedRow}
use Rattle.card_model.specs.Folds.{book, rows_issued}
use Rattle.card_model.specs.Laws.{HistoriesAgree, bill_of}
use Rattle.card_model.specs.Refusals.{Lists}
use Rattle.card_model.specs.Sheets.{sheet_of}
use Rattle.card_posts.specs.Posted.{last_accepted}
use Rattle.card_posts.specs.Stored.{AreTimely}
pub use Rattle.card_past.specs.Making.{NoneIsLeft}
use Rattle.card_replay.specs.Making.{AreToMake}
use Rattle.card_replay.specs.Owes.{AreLate, Late, bills_in, owed_by}
use Rattle.card_replay.specs.Replays.{AreLaterRows, Folding, IsFolding, given_of}

-- Such rows can be made, with what is kept of the account's book
abbrev pub LateRowsCanBeMade : Type 0
LateRowsCanBeMade =
    (shared : SharedRows) (lists : Lists) (late : Late) (f : Folding) (today : ℕ) → IsOpening (anchor_of lists.posts) → AreLate shared lists f.reached late → IsFolding (given_of lists shared) f → last_accepted lists.posts ≤ today
    → AreToMake shared lists.posts lists.issued late.made (bills_in late.owed) today f.book f.past

-- the lists with a post behind the others that issues nothing
abbrev pub with_kept : Lists → Kept → Lists
with_kept l k = record { posts = l.posts ++ k ∷ []; issued = l.issued }

-- A post that issues nothing, and changes no day up to the closing of a cycle whose Bill waits, leaves them late
abbrev pub LateRowsStay : Type 0
LateRowsStay =
    (shared : SharedRows) (lists : Lists) (late : Late) (k : Kept) (before after : ℕ) → 1 ≤ length lists.posts → AreLate shared lists before late → after ≤ before
    → All (λ o. HistoriesAgree o.closing shared shared lists.posts (lists.posts ++ k ∷ [])) late.owed → AreLate shared (with_kept lists k) after late

-- the lists with an accepted Bill, and the row that it issues
abbrev pub with_row : Lists → Kept → IssuedRow → Lists
with_row l k r = record { posts = l.posts ++ k ∷ []; issued = l.issued ++ r ∷ [] }

-- the same Bills and one more
abbrev pub owing : Anchor → Late → IssuedRow → Late
owing a late r = record { made = late.made; owed = late.owed ++ owed_by a r ∷ [] }

-- A Bill that is accepted today, on an account that reached no later day, may wait behind them
abbrev pub LateRowsGrow : Type 0
LateRowsGrow =
    (shared : SharedRows) (lists : Lists) (late : Late) (key : List ℕ) (today cycle reached : ℕ) (r : IssuedRow) → 1 ≤ length lists.posts → IsOpening (anchor_of lists.posts) → AreLate shared lists reached late
    → (anchor_of lists.posts).opened ≤ today → reached < today → last_accepted lists.posts ≤ today → today ≤ last_request_day → closing (anchor_of lists.posts) cycle < today
    → rows_issued cycle (length lists.posts + 1) today (sheet_of lists.posts lists.issued shared today) (book lists.posts lists.issued shared today) ≡ r ∷ []
    → AreLate shared (with_row lists (bill_of (length lists.posts + 1) key today cycle) r) reached (owing (anchor_of lists.posts) late r)

-- Shared rows of later days leave them
abbrev pub LaterRowsLeaveThem : Type 0
LaterRowsLeaveThem =
    (old new : SharedRows) (lists : Lists) (late : Late) (reached day : ℕ) → AreTimely (anchor_of lists.posts).opened lists.posts → last_accepted lists.posts ≤ day → AreLaterRows (is_variable lists.posts) day old new
    → AreLate old lists reached late → AreLate new lists reached late
