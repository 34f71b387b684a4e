-- What the calls that enter a post on its day ask, and what stands after them.
use Rattle.std.specs.Prelude.{ℕ, ◌≡◌, true, List, Option, Result, OnErr, ℤ, pos, min, ◌≤ℤ◌}
use Rattle.card_events.specs.declared.anchor.Channel.{Channel}
use Rattle.card_events.specs.History.{CorrectedPost}
use Rattle.card_events.specs.SharedRows.{IndexRow}
use Rattle.card_events.specs.declared.kept.Slot.{Slot}
use Rattle.card_events.specs.declared.post.Place.{Place}
use Rattle.card_events.specs.declared.post.Post.{Post}
use Rattle.card_events.specs.declared.post.Post.TheVariants as post
use Rattle.card_model.specs.Books.{Account, Book}
use Rattle.card_model.specs.Cycles.{IssuedRow, Seen, last_cycle}
use Rattle.card_model.specs.Effects as model
use Rattle.card_model.specs.Effects.{effect, meant_for, payment_at, returned_fee, second_closing}
use Rattle.card_model.specs.Fees.{with_fee}
use Rattle.card_model.specs.Limits.{balance_limit}
use Rattle.card_model.specs.Payments.{minimum_left}
use Rattle.card_model.specs.Rates.{index_on}
use Rattle.card_model.specs.declared.entry.Entry.{Entry}
use Rattle.card_model.specs.declared.fee.Fee.{Fee}
use Rattle.card_rates.specs.RateBooks.{Rates}
use Rattle.card_rates.specs.Settled.{has_deferred}
use Rattle.card_segments.specs.Balances.{AreWithin, Balances}
use Rattle.card_effects.specs.Returned.{AreOfThose}
use Rattle.card_effects.specs.Standing.{AreRated, IsSlotOf, StandsAt}

-- ---- what is asked
-- segments and rates of one account, 0 to 10^15 cents, and balances of at most 10^15 cents in size
pub record MayMove (segments : Balances) (rates : Rates) (cents : ℤ) : Type 0 where
  pub rated : AreRated segments.segments rates
  pub amount : pos 0 ≤ℤ cents
  pub limit : cents ≤ℤ pos balance_limit
  pub small : AreWithin balance_limit segments.balances

-- ---- what stands
-- In a book of a day: where it stands behind balances and entries before a call, the book with the effect of the slot's post
-- stands behind those after it
abbrev pub EntersAt : Account → Seen → Post → Slot → Rates → Balances → List Entry → Balances → List Entry → Type 0
EntersAt a seen k slot rated old entries new after =
    (issued : Option IssuedRow) (p : CorrectedPost) (b : Book) → StandsAt a seen b rated old.balances entries → IsSlotOf seen p slot
    → StandsAt a seen (effect issued a seen p k b) rated new.balances after

-- so it is in every book
abbrev pub Enters : Post → Slot → Rates → Balances → List Entry → Balances → List Entry → Type 0
Enters k slot rated old entries new after = (a : Account) (seen : Seen) → EntersAt a seen k slot rated old entries new after

-- so it is in those books that meet a premise
abbrev pub EntersWhere : (Option IssuedRow → Account → Seen → CorrectedPost → Book → Type 0) → Post → Slot → Rates → Balances → List Entry → Balances → List Entry → Type 0
EntersWhere premise k slot rated old entries new after =
    (issued : Option IssuedRow) (a : Account) (seen : Seen) (p : CorrectedPost) (b : Book) → StandsAt a seen b rated old.balances entries → IsSlotOf seen p slot
    → premise issued a seen p b → StandsAt a seen (effect issued a seen p k b) rated new.balances after

-- in every book of a day: a penalty fee is charged, where there is one, for the post with a number
abbrev pub ChargesFee : ℕ → ℕ → Option Fee → Rates → Balances → List Entry → Balances → List Entry → Type 0
ChargesFee day number charged rated old entries new after =
    (a : Account) (seen : Seen) (b : Book) → StandsAt a seen b rated old.balances entries → day ≡ seen.day
    → StandsAt a seen (with_fee a seen number charged b) rated new.balances after

-- in every book without an entry of a segment that is still to come: the parts of a payment are put back
abbrev pub PutsBack : ℕ → Slot → Rates → Balances → List Entry → Balances → List Entry → Type 0
PutsBack payment slot rated old entries new after =
    (a : Account) (seen : Seen) (p : CorrectedPost) (b : Book) → StandsAt a seen b rated old.balances entries → AreOfThose seen.day rated b.entries → IsSlotOf seen p slot
    → StandsAt a seen (model.returned a seen p.number payment b) rated new.balances after

-- ---- premises
-- this closing is the one after that of today's cycle, or no segment of the rates is a deferred plan: nothing else reads it
abbrev pub FollowsWhereAsked : Rates → ℕ → Account → Seen → Type 0
FollowsWhereAsked rated closing a seen = has_deferred rated.segments ≡ true → closing ≡ second_closing a seen.day

-- this closing follows where it is asked, and these rows give today's index
pub record ClosesNext (rows : List IndexRow) (closing : ℕ) (rated : Rates) (issued : Option IssuedRow) (a : Account) (seen : Seen) (p : CorrectedPost) (b : Book) : Type 0 where
  pub following : FollowsWhereAsked rated closing a seen
  pub index : index_on rows seen.day ≡ index_on seen.index seen.day

-- so it is, and the minimum part is what is left of the minimum payment, or the whole payment where that is less
pub record IsSplit (rows : List IndexRow) (closing : ℕ) (rated : Rates) (minimum_part : ℤ) (issued : Option IssuedRow) (a : Account) (seen : Seen) (p : CorrectedPost) (b : Book) : Type 0 where
  pub following : FollowsWhereAsked rated closing a seen
  pub index : index_on rows seen.day ≡ index_on seen.index seen.day
  pub minimum : minimum_part ≡ pos (min p.cents (minimum_left seen p (last_cycle b.cycles)))

-- no entry is of a segment that is still to come, and the fee is that for the return of the payment
pub record IsReturnOf (payment : ℕ) (charged : Option Fee) (rated : Rates) (issued : Option IssuedRow) (a : Account) (seen : Seen) (p : CorrectedPost) (b : Book) : Type 0 where
  pub those : AreOfThose seen.day rated b.entries
  pub fee : charged ≡ returned_fee issued seen b (meant_for b.cycles (payment_at payment seen.posts))

-- ---- payments
-- under these rows of the index a payment is entered so, whatever its day, its minute, its cents and its channel
abbrev pub EntersPayment : List IndexRow → ℕ → ℤ → Slot → Rates → Balances → List Entry → Balances → List Entry → Type 0
EntersPayment rows following minimum_part slot rated old entries new after =
    (day minute cents : ℕ) (by : Channel) → EntersWhere (IsSplit rows following rated minimum_part) (post.Payment day minute by cents) slot rated old entries new after

-- so is a merchant's credit on a place
abbrev pub EntersCredit : List IndexRow → ℕ → Place → Slot → Rates → Balances → List Entry → Balances → List Entry → Type 0
EntersCredit rows following place slot rated old entries new after =
    (day cents : ℕ) → EntersWhere (ClosesNext rows following rated) (post.Credit day place cents) slot rated old entries new after

-- ---- what is left
-- the segments stay, and after want of memory balances and entries are as they were
pub record Leaves {A E : Type 0} (done : Result A E) (old new : Balances) (entries after : List Entry) : Type 0 where
  pub segments : new.segments ≡ old.segments
  pub err : OnErr done (new ≡ old)
  pub err_entries : OnErr done (after ≡ entries)
