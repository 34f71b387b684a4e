-- A Book and what is recorded of an account up to the day last reached. Days are day numbers.
use Rattle.std.specs.Prelude.{◌≡◌, ℕ, ◌+◌, ◌-◌, ◌≤◌, ⊤, true, [], ◌∷◌, ◌++◌, List, Some, Option, None, IfSome}
use Rattle.card_events.specs.Range.{last_request_day}
use Rattle.card_events.specs.SharedRows.{SharedRows}
use Rattle.card_model.specs.Cycles.{Cycle}
use Rattle.card_model.specs.Refusals.{Lists}
use Rattle.card_daily.specs.Given.{Given, opened_in}
use Rattle.card_book.specs.Marks.{AreMarks}
use Rattle.card_book.specs.Stands.{StandsFor, Summary, day_to_fold}
use Rattle.card_daily.specs.Stands.{IsBlank}
use Rattle.card_daily.specs.declared.track.Track.{Track}
use Rattle.card_past.specs.Pasts.{AreWithin, IsFront}
use Rattle.card_past.specs.declared.eve.Eve.{Eve}
use Rattle.card_past.specs.declared.past.Ends.{Ends}
use Rattle.card_past.specs.declared.past.Past.{Past}

-- the day that is reached where this is the last day folded, and, where none was, the day before the opening
abbrev pub day_reached : ℕ → Option ℕ → ℕ
day_reached opened None = opened - 1
day_reached opened (Some day) = day

-- the last day folded by a Book, none where there is none
abbrev pub day_of : Option Summary → Option ℕ
day_of None = None
day_of (Some b) = b.day

-- no fold of it was broken off
abbrev pub IsWhole : Option Summary → Type 0
IsWhole None = ⊤
IsWhole (Some b) = b.whole ≡ true

-- A Book and a track stand for the book at the end of the last day folded. Where there is no Book no day is, and nothing is recorded: that
-- is the book of each day before the opening
abbrev pub Stands : Given → Option Summary → Track → Type 0
Stands g None t = IsBlank t
Stands g (Some b) t = StandsFor g b t

-- the day last reached, the Book at its end, what is recorded up to it, and, where there is one, the Book of an earlier day. Where no day
-- is reached the day is the one before the opening, and there is no Book
pub record Folding : Type 0 where
  pub reached : ℕ
  pub book : Option Summary
  pub past : Past
  pub eve : Option Eve

-- what the fold of the account is given
abbrev pub given_of : Lists → SharedRows → Given
given_of lists shared = record { history = lists.posts; issued = lists.issued; shared = shared }

-- ---- a Book and its past
-- each closing up to the last day folded has its mark
abbrev pub HasMarks : Given → Past → Type 0
HasMarks g p = AreMarks g p.track.cycles.items p.since.items p.accrued.items

-- they stand for the book at the end of the last day folded, with the mark of each closing up to then
pub record HasClosings (g : Given) (b : Option Summary) (p : Past) : Type 0 where
  pub stands : Stands g b p.track
  pub marks : HasMarks g p

-- they stand for the book at the end of the last day folded, which comes before the day after this one
pub record IsFoldedBefore (g : Given) (b : Summary) (p : Past) (to : ℕ) : Type 0 where
  pub stands : StandsFor g b p.track
  pub marks : HasMarks g p
  pub opened : opened_in g ≤ to
  pub later : day_to_fold g b.day ≤ to + 1
  pub last : to ≤ last_request_day

-- the last day folded closed the last cycle, and all closings before it have their marks
pub record ClosesLast (g : Given) (b : Summary) (p : Past) : Type 0 where
  pub before : List Cycle
  pub last : Cycle
  pub cycles : p.track.cycles.items ≡ before ++ last ∷ []
  pub day : b.day ≡ Some last.closing
  pub dated : last.closing ≤ last_request_day
  pub marks : AreMarks g before p.since.items p.accrued.items

-- ---- an account
-- A Book with the front of the past up to some day stands for the account, and has the marks of its closings
pub record BeginsAgain (g : Given) (e : Ends) (past : Past) (b : Option Summary) : Type 0 where
  pub within : AreWithin e past
  pub whole : IsWhole b
  pub stands : (front : Past) → IsFront e past front → Stands g b front.track
  pub marks : (front : Past) → IsFront e past front → HasMarks g front

-- so does the Book of a day that isn't after the one last reached
pub record IsEve (g : Given) (reached : ℕ) (past : Past) (e : Eve) : Type 0 where
  pub folded : day_of e.book ≡ Some e.day
  pub opened : opened_in g ≤ e.day
  pub earlier : e.day ≤ reached
  pub begins : BeginsAgain g e.ends past e.book

-- The folding stands for the account's book at the end of the day last reached, with the mark of each closing up to then. That is the
-- book of every day before the opening where no day is reached
pub record IsFolding (g : Given) (f : Folding) : Type 0 where
  pub day : day_to_fold g (day_of f.book) ≡ f.reached + 1
  pub whole : IsWhole f.book
  pub stands : Stands g f.book f.past.track
  pub marks : HasMarks g f.past
  pub eve : IfSome f.eve (IsEve g f.reached f.past)

-- a Book and its past, at the end of some day or before the opening, may be folded on to the end of today
pub record FoldsOn (g : Given) (today : ℕ) (b : Option Summary) (p : Past) : Type 0 where
  pub reached : ℕ
  pub folding : IsFolding g (record { reached = reached; book = b; past = p; eve = None })
  pub opened : opened_in g ≤ today
  pub later : reached ≤ today
  pub last : today ≤ last_request_day
