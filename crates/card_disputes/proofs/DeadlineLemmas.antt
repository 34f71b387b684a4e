-- Cycles and business days.
use Rattle.std.proofs.Common.{◌≡◌, ℕ, zero, suc, ◌+◌, ◌-◌, ◌≤◌, ◌<◌, ◌==◌, min, Bool, true, false, cond, List, refl, sym, ap, ◌∙◌, arith}
use Rattle.card_events.specs.Range.{last_request_day, last_calendar_day}
use Rattle.card_events.specs.declared.anchor.Anchor.{Anchor}
use Rattle.std.specs.Prelude.{Option, Some, None, SomeIff}
use Rattle.card_events.specs.Billing.{closing, closings_among, cycle_of}
use Rattle.card_events.specs.Business.{next_business}
use Rattle.card_events.specs.Civil.{day_of_month}
use Rattle.card_model.specs.Deadlines.{business_day_after, resolve_by}

-- the cycle of a day before the opening is the first
pub early-cycle : (a : Anchor) (day : ℕ) → day < a.opened → cycle_of a a.opened ≡ cycle_of a day
unfolding cycle_of
early-cycle a day l =
    let none : a.opened - a.opened ≡ day - a.opened = omega (arith, l) in
    ap (λ n. closings_among a.close_day a.opened n + 1) none

few-closings : (c first n : ℕ) → closings_among c first n ≤ n
unfolding closings_among
few-closings c first zero = omega arith
few-closings c first (suc n) =
    let rest = few-closings c first n in
    let one = at (day_of_month (first + n) == c) in
    omega (arith, rest, one)
  where
    at : (b : Bool) → cond {A = ℕ} b 1 0 ≤ 1
    at true = omega arith
    at false = omega arith

-- and none has a number above the days since the opening
pub few-cycles : (a : Anchor) (day : ℕ) → cycle_of a day ≤ day + 1
unfolding cycle_of
few-cycles a day = let few = few-closings a.close_day a.opened (day - a.opened) in omega (arith, few)

pub one-more : (holidays : List ℕ) (n day : ℕ) → business_day_after holidays (suc n) day ≡ business_day_after holidays n (next_business holidays day)
unfolding business_day_after
one-more holidays n day = refl

pub no-more : (holidays : List ℕ) (day : ℕ) → business_day_after holidays 0 day ≡ day
unfolding business_day_after
no-more holidays day = refl

-- the earlier of the second closing, where it is in the calendar, and the 90th day
pub resolve-is : (a : Anchor) (day k : ℕ) (second : Option ℕ) (later result : ℕ) → day ≤ last_request_day → k ≡ cycle_of a day → later ≡ day + 90
    → SomeIff second ((1 ≤ k + 2) × (closing a (k + 2) ≤ last_calendar_day)) (closing a (k + 2))
    → (second ≡ None → result ≡ later) → ((d : ℕ) → second ≡ Some d → result ≡ min d later) → result ≡ resolve_by a day
unfolding resolve_by
resolve-is a day k None later result dated is on iff none some =
    let past : closing a (k + 2) ≤ last_calendar_day → ⊥ = λ l. iff (omega arith, l) in
    let far : last_calendar_day < closing a (k + 2) = omega (arith, past) in
    let least : min (closing a (k + 2)) (day + 90) ≡ day + 90 = omega (arith, far, dated) in
    none refl ∙ on ∙ sym least ∙ ap (λ n. min (closing a (n + 2)) (day + 90)) is
resolve-is a day k (Some d) later result dated is on iff none some =
    some d refl ∙ ap (λ x. min x later) iff.1 ∙ ap (min (closing a (k + 2))) on ∙ ap (λ n. min (closing a (n + 2)) (day + 90)) is
