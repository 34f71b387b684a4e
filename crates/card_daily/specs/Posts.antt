-- The posts of a day, in turn: what each changes of state and track. Days are day numbers.
use Rattle.std.specs.Prelude.{ℕ, ◌-◌, ◌≡◌, ◌≤◌, ◌||◌, true, false, Bool, take, List, Option, Result, OnErr}
use Rattle.card_effects.specs.Repaid.{repaid_rows}
use Rattle.card_effects.specs.Returned.{AreOfThose}
use Rattle.card_effects.specs.Standing.{IsSlotOf, StandsAt}
use Rattle.card_events.specs.History.{CorrectedPost, anchor_of, corrected}
use Rattle.card_events.specs.declared.kept.Slot.{Slot}
use Rattle.card_events.specs.declared.post.Post.{Post}
use Rattle.card_events.specs.declared.post.Post.TheVariants as post
use Rattle.card_closing.specs.Growth.{IsOfNoCredit, or_post}
use Rattle.card_closing.specs.Rows.{Rows}
use Rattle.card_model.specs.Books.{Account, Book}
use Rattle.card_model.specs.Cycles.{IssuedRow, Seen}
use Rattle.card_model.specs.Effects.{effect}
use Rattle.card_model.specs.Payments.{is_payment, returns}
use Rattle.card_model.specs.Segments.{SegmentTerms}
use Rattle.card_rates.specs.RateBooks.{Rates}
use Rattle.card_rates.specs.Days.{day_post, place_of}
use Rattle.card_rates.specs.declared.day.DayPost.{DayPost}
use Rattle.card_daily.specs.Given.{Given, account_in, opened_in, row_in, seen_in}
use Rattle.card_daily.specs.Stands.{Begins, before, posts_of}
use Rattle.card_daily.specs.declared.state.State.{State}
use Rattle.card_daily.specs.declared.track.Track.{Track}

-- ---- places
-- the place of a day among all posts
abbrev pub place_in : Given → ℕ → ℕ
place_in g day = place_of day (corrected (anchor_of g.history) g.shared.holidays g.history)

-- the posts of a day that stand before a place
abbrev pub done_by : Given → ℕ → ℕ → List CorrectedPost
done_by g day place = take (place - place_in g day) (posts_of g day)

-- ---- one post
-- a Penalty, which changes no entry
abbrev pub is_penalty : Post → Bool
is_penalty post.Penalty = true
is_penalty _ = false

-- the payments that are returned after a post, where these were before it
abbrev pub returned_after : (ℕ → Bool) → Post → ℕ → Bool
returned_after returned p n = returned n || returns n p

-- Segments, rates, fees and track stand for a book of a day, and the rows of each segment hold what the book's entries brought
-- it from the first day of its cycle on, but for the payments that are returned
pub record StandWith (a : Account) (seen : Seen) (first : ℕ) (returned : ℕ → Bool) (rows_by : SegmentTerms → Rows) (b : Book) (s : State) (t : Track) : Type 0 where
  pub at : StandsAt a seen b s.rates s.segments.balances t.entries.items
  pub fees : t.fees.items ≡ b.fees
  pub rows : s.rows.items ≡ repaid_rows returned first rows_by s.rates.segments b.entries

-- What a post may rely on, in the book before it: a payment isn't returned yet, and the payment that a Return names has the
-- number of no merchant's credit. No entry is of a segment that is still to come
pub record MayFollow (day : ℕ) (rated : Rates) (returned : ℕ → Bool) (p : CorrectedPost) (b : Book) : Type 0 where
  pub stands : is_payment p.post ≡ true → returned p.number ≡ false
  pub paid : (n : ℕ) → returns n p.post ≡ true → IsOfNoCredit n b.entries
  pub those : AreOfThose day rated b.entries

-- but for balances, fees, entries and rows, all is as it was
pub record IsRestKept (s new : State) (t after : Track) : Type 0 where
  pub segments : new.segments.segments ≡ s.segments.segments
  pub rates : new.rates ≡ s.rates
  pub accruals : new.accruals.items ≡ s.accruals.items
  pub cycles : after.cycles.items ≡ t.cycles.items

-- and after want of memory the track begins with what it held
pub record LeavesRest {A E : Type 0} (done : Result A E) (s new : State) (t after : Track) : Type 0 where
  pub rest : IsRestKept s new t after
  pub err : OnErr done (Begins t after)

-- ---- a post that is entered
-- on a day: the book, and the effect of a post on it
abbrev pub StandOn : Given → ℕ → ℕ → (ℕ → Bool) → (SegmentTerms → Rows) → Book → State → Track → Type 0
StandOn g day first returned rows_by b s t = StandWith (account_in g) (seen_in g day) first returned rows_by b s t

abbrev pub effect_on : Given → ℕ → CorrectedPost → Post → Book → Book
effect_on g day p k b = effect (row_in g (day - opened_in g)) (account_in g) (seen_in g day) p k b

-- Whatever book state and track stand with before a call, afterwards they stand with that book after the slot's post
abbrev pub EntersWith : Account → Seen → Post → Slot → State → State → Track → Track → Type 0
EntersWith a seen k slot s new t after =
    (issued : Option IssuedRow) (first : ℕ) (returned : ℕ → Bool) (rows_by : SegmentTerms → Rows) (p : CorrectedPost) (b : Book) → IsSlotOf seen p slot
    → StandWith a seen first returned rows_by b s t → StandWith a seen first returned rows_by (effect issued a seen p k b) new after

-- so it is in the books of the slot's day
abbrev pub EntersOn : Given → Post → Slot → State → State → Track → Track → Type 0
EntersOn g k slot s new t after = EntersWith (account_in g) (seen_in g slot.day) k slot s new t after

-- so it is in those that meet a premise
abbrev pub EntersIf : (Given → ℕ → ℕ → (ℕ → Bool) → CorrectedPost → Book → Type 0) → Given → Post → Slot → State → State → Track → Track → Type 0
EntersIf premise g k slot s new t after =
    (issued : Option IssuedRow) (first : ℕ) (returned : ℕ → Bool) (rows_by : SegmentTerms → Rows) (p : CorrectedPost) (b : Book) → premise g slot.day first returned p b
    → IsSlotOf (seen_in g slot.day) p slot → StandOn g slot.day first returned rows_by b s t
    → StandOn g slot.day first returned rows_by (effect issued (account_in g) (seen_in g slot.day) p k b) new after

-- the cycle of a merchant's credit has begun by its day
abbrev pub HasBegun : Given → ℕ → ℕ → (ℕ → Bool) → CorrectedPost → Book → Type 0
HasBegun g day first returned p b = first ≤ day

-- so has that of a payment, which isn't returned so far, and whose day closed no cycle yet
pub record IsUnreturned (g : Given) (day first : ℕ) (returned : ℕ → Bool) (p : CorrectedPost) (b : Book) : Type 0 where
  pub begun : first ≤ day
  pub stands : returned p.number ≡ false
  pub cycles : b.cycles ≡ (before g day).cycles

-- the return of a payment, whatever its day: afterwards the payment is among the returned ones
abbrev pub EntersReturn : Given → ℕ → Slot → State → State → Track → Track → Type 0
EntersReturn g payment slot s new t after =
    (first : ℕ) (returned : ℕ → Bool) (rows_by : SegmentTerms → Rows) (p : CorrectedPost) (b : Book) (on : ℕ) → b.cycles ≡ (before g slot.day).cycles
    → IsOfNoCredit payment b.entries → AreOfThose slot.day s.rates b.entries → IsSlotOf (seen_in g slot.day) p slot → StandOn g slot.day first returned rows_by b s t
    → StandOn g slot.day first (or_post returned payment) rows_by (effect_on g slot.day p (post.Return on payment) b) new after

-- a post of its day, of whatever kind
abbrev pub EntersPost : Given → DayPost → State → State → Track → Track → Type 0
EntersPost g x s new t after =
    (first : ℕ) (returned : ℕ → Bool) (rows_by : SegmentTerms → Rows) (p : CorrectedPost) (b : Book) → first ≤ x.slot.day → b.cycles ≡ (before g x.slot.day).cycles
    → MayFollow x.slot.day s.rates returned p b → x ≡ day_post p → StandOn g x.slot.day first returned rows_by b s t
    → StandOn g x.slot.day first (returned_after returned p.post) rows_by (effect_on g x.slot.day p p.post b) new after
