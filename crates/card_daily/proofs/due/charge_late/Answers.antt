use Rattle.std.proofs.Common.{◌≡◌, ℕ, ◌-◌, ◌≤◌, List, [], ◌∷◌, ◌++◌, length, take, sym, ap, ◌∙◌, arith, subst, refl, Some, None}
use Rattle.std.specs.Prelude.{slice_get}
use Rattle.card_model.specs.Cycles.{Cycle}
use Rattle.card_daily.proofs.Books.{before-small}
use Rattle.card_daily.proofs.DueDay.{begun, fee-few, fee-front}
use Rattle.card_daily.proofs.Lasts.{last-get}
use Rattle.card_daily.proofs.Standing.{before-lies, begins-same, begins-with, rated, stands, within}
use Rattle.card_daily.specs.Given.{Given, IsSound, account_in, opened_in, seen_in}
use Rattle.card_daily.specs.Stands.{AreBefore, before}
use Rattle.card_daily.specs.declared.state.State.{State}
use Rattle.card_daily.specs.declared.track.Track.{Track}
use Rattle.card_effects.specs.Standing.{StandsAt}
use Rattle.card_rates.specs.RateBooks.{rates_of}
use Rattle.card_daily.proofs.due.charge_late.Goals as goal

pub fee_due-requires-clause-last : goal.fee_due-requires-clause-last
fee_due-requires-clause-last c =
    let cycles = c.deref-2.ensures.value ∙ c.requires.before.stand.cycles in
    c.last.ensures.value ∙ (ap (λ (cs : List Cycle). slice_get cs (length cs - 1)) cycles ∙ last-get (before c.args.inputs.now c.args.day).cycles)

from-one : (g : Given) (day : ℕ) → IsSound g → opened_in g ≤ day → 1 ≤ day
from-one g day s l = let o = s.opening.first in omega arith

pub charge-requires : goal.charge-requires
charge-requires c =
    let g = c.args.inputs.now in
    let day = c.args.day in
    let sound = c.anchor-anchor.ensures.sound in
    let few = fee-few g day c.in-Some.late sound (sym c.fee_due.ensures.value ∙ c.in-Some.is) in
    let stand = c.requires.before.stand in
    record {
      rated = rated g _ (before g day) c.args.state.now c.args.track.now stand;
      amount = few.0;
      limit = few.1;
      small = within (before g day).entries c.args.state.now.segments.balances stand.sums (before-small g day sound (from-one g day sound c.requires.dated.opened) c.requires.dated.last);
    }

-- state and track stand for the book of the days before
abbrev stand-before : (g : Given) (day : ℕ) (s : State) (t : Track) → opened_in g ≤ day → AreBefore g day s t → StandsAt (account_in g) (seen_in g day) (before g day) s.rates s.segments.balances t.entries.items
stand-before g day s t o h =
    let b = before g day in
    let at = stands g day b s.segments.balances o (before-lies g day o) h.stand.sums in
    subst (λ r. StandsAt (account_in g) (seen_in g day) b r s.segments.balances t.entries.items) (sym h.stand.rates)
    (subst (λ es. StandsAt (account_in g) (seen_in g day) b (rates_of g.shared.holidays g.history b.penalties) s.segments.balances es) (sym h.stand.entries) at)

pub returns-in_ok-charge-clause-charged : goal.returns-in_ok-charge-clause-charged
returns-in_ok-charge-clause-charged c =
    let g = c.args.inputs.now in
    let day = c.args.day in
    let s = c.args.state.now in
    let t = c.args.track.now in
    let due = sym c.fee_due.ensures.value ∙ c.in-Some.is in
    let did = c.in_ok-charge.ensures in
    let at = did.stands (account_in g) (seen_in g day) (before g day) (stand-before g day s t c.requires.dated.opened c.requires.before) refl in
    begun g day (Some c.in-Some.late) s c.charge.new.state t c.charge.new.track due c.requires.before
    (record {
      entries = at.same;
      cycles = c.charge.ensures.cycles;
      fees = did.fees ∙ ap (λ fs. fs ++ c.in-Some.late ∷ []) c.requires.before.stand.fees;
      sums = at.sums;
      segments = did.segments;
      rates = did.rates;
      rows = did.rows;
      accruals = did.accruals;
    })

pub returns-in_ok-charge-clause-begins : goal.returns-in_ok-charge-clause-begins
returns-in_ok-charge-clause-begins c =
    let g = c.args.inputs.now in
    let day = c.args.day in
    let s = c.args.state.now in
    let t = c.args.track.now in
    let did = c.in_ok-charge.ensures in
    let at = did.stands (account_in g) (seen_in g day) (before g day) (stand-before g day s t c.requires.dated.opened c.requires.before) refl in
    record {
      entries = subst (λ es. take (length es) c.charge.new.track.entries.items ≡ es) (sym c.requires.before.stand.entries) (ap (take (length (before g day).entries)) at.same ∙ fee-front (account_in g) (seen_in g day) 0 c.in-Some.late (before g day));
      cycles = begins-same t.cycles.items c.charge.new.track.cycles.items c.charge.ensures.cycles;
      fees = begins-with t.fees.items c.charge.new.track.fees.items (c.in-Some.late ∷ []) did.fees;
    }

pub returns-in_default-clause-charged : goal.returns-in_default-clause-charged
returns-in_default-clause-charged c =
    let s = c.args.state.now in
    let t = c.args.track.now in
    let h = c.requires.before in
    begun c.args.inputs.now c.args.day None s s t t (sym c.fee_due.ensures.value ∙ c.in_default.is) h
    (record { entries = h.stand.entries; cycles = refl; fees = h.stand.fees; sums = h.stand.sums; segments = refl; rates = refl; rows = refl; accruals = refl })
