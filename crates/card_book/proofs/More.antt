-- A Book after a span more.
use Rattle.std.proofs.Common.{◌≡◌, ℕ, ◌+◌, ◌-◌, ◌≤◌, Bool, refl, sym, ap, ◌∙◌, subst, arith, Option, Some, None}
use Rattle.std.specs.Prelude.{neg_ℤ}
use Rattle.card_events.specs.Range.{last_request_day}
use Rattle.card_events.specs.History.{anchor_of}
use Rattle.card_fees.specs.declared.tally.Tally.{Tally}
use Rattle.card_fees.proofs.Tallies.{tallies-stay}
use Rattle.card_model.specs.Books.{Book}
use Rattle.card_model.specs.CycleDays.{IsOpening}
use Rattle.card_model.specs.Entries.{AreBalances, at_least_zero, credit_balance, credit_in}
use Rattle.card_rates.specs.Laws.{AreQuiet}
use Rattle.card_daily.specs.Given.{Given, Tallies, book_on, opened_in, posts_in}
use Rattle.card_daily.specs.Stands.{AreBefore}
use Rattle.card_daily.specs.declared.state.State.{State}
use Rattle.card_daily.specs.declared.track.Track.{Track}
use Rattle.card_book.specs.Stands.{HasTally, StandsFor, Summary, day_to_fold, since_after, since_through}
use Rattle.card_book.proofs.Balances.{each-any}
use Rattle.card_book.proofs.Days.{through-is}
use Rattle.card_book.proofs.QuietSpans.{span-since}

-- the first day that isn't folded isn't before the opening
pub from-opening : (g : Given) (day : Option ℕ) → ((d : ℕ) → day ≡ Some d → opened_in g ≤ d) → opened_in g ≤ day_to_fold g day
from-opening g None h = omega arith
from-opening g (Some day) h = let l = h day refl in omega arith

same-day : (x y : ℕ) → Some x ≡ Some y → x ≡ y
same-day x y e = cc

credit-is : (g : Given) (day : ℕ) (s : State) → AreBalances (book_on g day).entries s.segments.balances → credit_in s.segments.balances ≡ credit_balance (book_on g day).entries
credit-is g day s h = ap (λ z. at_least_zero (neg_ℤ z)) (each-any (book_on g day).entries s.segments.balances 0 h)

-- what was counted is right on a later day
pub tally-by : (g : Given) (o : Option ℕ) (t : Tally) (day : ℕ) → HasTally g o t → day_to_fold g o ≤ day + 1 → Tallies g day t
tally-by g None t day h l = h (posts_in g) day l
tally-by g (Some last) t day h l = tallies-stay last day (posts_in g) t (omega (arith, l)) h

pub span-stands : (g : Given) (b : Summary) (s : State) (tally : Tally) (t u : Track) (first day : ℕ) (since : Option ℕ) (whole : Bool) → IsOpening (anchor_of g.history) → StandsFor g b t → first ≡ day_to_fold g b.day
    → first ≤ day → day ≤ last_request_day → AreQuiet g.history g.issued g.shared b.state.rates.penalties first (day - first)
    → AreBefore g (day + 1) s u → since ≡ since_after (credit_in s.segments.balances) day b.credit_since → Tallies g day tally
    → StandsFor g (record { day = Some day; state = s; tally = tally; credit_since = since; whole = whole }) u
span-stands g b s tally t u first day since whole open' h now l high q folded e counted =
    let sums = subst (λ (x : Book). AreBalances x.entries s.segments.balances) (through-is g (Some day)) folded.stand.sums in
    let place : day_to_fold g b.day + (day - first) ≡ day = omega (arith, now, l) in
    let from = from-opening g b.day h.opened in
    let quiet = subst (λ d. AreQuiet g.history g.issued g.shared b.state.rates.penalties d (day - first)) now q in
    let next = subst (λ d. since_through g (Some d) ≡ since_after (credit_balance (book_on g d).entries) d (since_through g b.day)) place
    (span-since g b.state.rates.penalties b.day (day - first) open' h.opened from (omega (arith, place, high)) quiet) in
    record {
      opened = λ d is. let same = same-day day d is in omega (arith, from, now, l, same);
      folded = folded;
      since = e ∙ (ap (λ n. since_after n day b.credit_since) (credit-is g day s sums) ∙ (ap (since_after (credit_balance (book_on g day).entries) day) h.since ∙ sym next));
      tally = counted;
    }
