-- Statements that an account owes: Bills of it were accepted, and their rows aren't made yet. Days are day numbers.
use Rattle.std.specs.Prelude.{ℕ, ⊤, ◌≡◌, ◌+◌, ◌<◌, ◌≤◌, List, [], ◌∷◌, ◌++◌, length, map, Option, Some, None}
use Rattle.std.specs.List.{All}
use Rattle.card_billed.specs.Unmade.{AreUnmade}
use Rattle.card_events.specs.Billing.{closing}
use Rattle.card_events.specs.History.{anchor_of}
use Rattle.card_events.specs.Range.{last_request_day}
use Rattle.card_events.specs.SharedRows.{SharedRows}
use Rattle.card_events.specs.declared.anchor.Anchor.{Anchor}
use Rattle.card_events.specs.declared.kept.Kept.{Kept}
use Rattle.card_events.specs.declared.post.Post.{Post}
use Rattle.card_events.specs.declared.post.Post.TheVariants as post
use Rattle.card_model.specs.Cycles.{IssuedRow}
use Rattle.card_model.specs.Refusals.{Lists}
use Rattle.card_posts.specs.Posted.{last_accepted}
use Rattle.card_past.specs.declared.owed.Owed.{Owed}

-- the rows that are made, and the Bills whose rows aren't, in order
pub record Late : Type 0 where
  pub made : List IssuedRow
  pub owed : List Owed

-- their numbers
abbrev pub bills_in : List Owed → List ℕ
bills_in owed = map (λ o. o.bill) owed

-- the Bill of a row
abbrev pub owed_by : Anchor → IssuedRow → Owed
owed_by a r = record { bill = r.bill; closing = closing a r.cycle }

-- the Bill whose statement is owed, if one is
abbrev pub owed_as : Option Owed → List Owed
owed_as None = []
owed_as (Some o) = o ∷ []

-- it is what a Bill behind these posts owes
pub record IsBillOf (history : List Kept) (p : Post) (o : Owed) : Type 0 where
  pub cycle : ℕ
  pub post : p ≡ post.Bill cycle
  pub number : o.bill ≡ length history + 1
  pub shut : o.closing ≡ closing (anchor_of history) cycle

-- the rows are of days from one on, in their order, that aren't before the opening day and may be folded
unfoldable pub AreLater : ℕ → ℕ → List IssuedRow → Type 0
AreLater opened day [] = ⊤
AreLater opened day (r ∷ rest) = (day ≤ r.day) × (opened ≤ r.day) × (r.day ≤ last_request_day) × AreLater opened r.day rest

-- What is made is the front of what was issued. Each row behind it is the one that its Bill issues; they are in the order of their days,
-- each of a day after the one reached
pub record AreLate (shared : SharedRows) (lists : Lists) (reached : ℕ) (late : Late) : Type 0 where
  pub rest : List IssuedRow
  pub rows : lists.issued ≡ late.made ++ rest
  pub bills : late.owed ≡ map (owed_by (anchor_of lists.posts)) rest
  pub unmade : AreUnmade lists.posts late.made shared rest
  pub later : AreLater (anchor_of lists.posts).opened reached rest
  pub ahead : All (λ r. reached < r.day) rest
  pub accepted : All (λ r. r.day ≤ last_accepted lists.posts) rest
