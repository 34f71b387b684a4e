-- The fee for a payment that is returned.
use Rattle.std.proofs.Common.{nat_le, ◌≡◌, ℕ, zero, suc, ◌+◌, ◌-◌, ◌≤◌, List, length, refl, sym, ap, ◌∙◌, subst, arith, Option, Some, None, ℤ, pos, negsuc}
use Rattle.std.specs.Prelude.{◌≤ℤ◌, nat_lt}
use Rattle.std.proofs.lemmas.Bool.{ltb-true}
use Rattle.std.proofs.lemmas.Int.{ints}
use Rattle.card_bounds.proofs.Steps.{returned-small}
use Rattle.card_bounds.proofs.Whole.{folded-few, limits-on}
use Rattle.std.specs.List.{filter}
use Rattle.card_events.specs.Billing.{cycle_of}
use Rattle.card_events.specs.Range.{last_request_day}
use Rattle.card_events.specs.declared.anchor.Anchor.{Anchor}
use Rattle.card_fees.proofs.LateFees.{caps-fold}
use Rattle.card_fees.specs.DueLaws.{issued_fees}
use Rattle.card_events.specs.History.{anchor_of}
use Rattle.card_events.specs.SharedRows.{FeeRow}
use Rattle.card_model.proofs.Calendar.{cycles_are_of_the_calendar}
use Rattle.card_model.specs.Books.{Book, present_cycle}
use Rattle.card_model.specs.CycleDays.{HasItsDays}
use Rattle.card_model.specs.Caps.{capped_by, row_for}
use Rattle.card_model.specs.Cycles.{Cycle, IssuedRow, Seen}
use Rattle.card_model.specs.Effects.{returned_fee}
use Rattle.card_model.specs.Entries.{at_least_zero}
use Rattle.card_model.specs.Fees.{charged_by, charged_fee, fee_above, fee_by, fee_cents, fee_for, fees_for, issued_fee, last_due, penalty_fee, row_in_force}
use Rattle.card_model.specs.Folds.{cycle_at}
use Rattle.card_model.specs.Limits.{balance_limit}
use Rattle.card_model.specs.Payments.{asked}
use Rattle.card_model.specs.declared.fee.Fee.{Fee}
use Rattle.card_model.specs.declared.fee.FeeKind.TheVariants as kind
use Rattle.card_daily.proofs.Books.{before-is}
use Rattle.card_daily.proofs.Following.{cycle-few}
use Rattle.card_daily.proofs.LastThat.{found-at}
use Rattle.card_daily.specs.Given.{Given, IsSound, opened_in, row_in, seen_in}
use Rattle.card_daily.specs.Returns.{IsDueBy}
use Rattle.card_daily.specs.Stands.{before}

-- ---- the cycle of the last due date before a day
pub due-by : (g : Given) (day : ℕ) (c : Cycle) (cycles : List Cycle) → IsSound g → opened_in g ≤ day → day ≤ last_request_day → cycles ≡ (before g day).cycles → last_due day cycles ≡ Some c → IsDueBy g day c
due-by g day c cycles s o l same e =
    let one = s.opening.first in
    let at = found-at (λ (c : Cycle). nat_lt c.due day) (before g day).cycles c (ap (last_due day) (sym same) ∙ e) in
    let book = before-is g day (omega (arith, one, o)) in
    let days = cycles_are_of_the_calendar.days g.history g.issued g.shared (day - 1) at.number c s.opening (omega (arith, l)) (ap (λ (b : Book). cycle_at at.number b.cycles) (sym book) ∙ at.at) in
    let early = ltb-true c.due day at.passes in
    record {
      days = subst (λ k. HasItsDays (anchor_of g.history) k c) (sym days.number) days;
      first = let n = days.number in let f = at.first in omega (arith, n, f);
      due = omega (arith, early);
    }

-- ---- the cycles before a day
pub counted-cycles : (g : Given) (day : ℕ) (cycles : List Cycle) → IsSound g → opened_in g ≤ day → cycles ≡ (before g day).cycles → length cycles + 1 ≡ cycle_of (anchor_of g.history) day
counted-cycles g day cycles s o same =
    let one = s.opening.first in
    let low : 1 ≤ day = omega (arith, one, o) in
    let next : day - 1 + 1 ≡ day = omega (arith, low) in
    ap (λ (cs : List Cycle). length cs + 1) same
    ∙ (ap (λ (x : Book). length x.cycles + 1) (before-is g day low) ∙ (cycles_are_of_the_calendar.count g.history g.issued g.shared (day - 1) ∙ ap (cycle_of (anchor_of g.history)) next))

pub few-cycles : (g : Given) (day : ℕ) (cycles : List Cycle) → IsSound g → opened_in g ≤ day → day ≤ last_request_day → cycles ≡ (before g day).cycles → length cycles + 1 ≤ last_request_day
few-cycles g day cycles s o l same =
    let count = counted-cycles g day cycles s o same in
    let few = cycle-few (anchor_of g.history) day s.opening o l in
    omega (arith, count, few, l)

-- ---- the fee
pub by-parts : (t : List FeeRow) (fs : List Fee) (i : Option (List Fee)) (k n e day x m y l : ℕ) → k ≡ n → x ≡ m → y ≡ l
    → charged_by fees_for i (fee_by (row_in_force (filter (λ r. nat_le r.day day) t)) fs (record { kind = kind.Returned; due_cycle = k; cycle = e; day = day }) x y) ≡ charged_by fees_for i (fee_by (row_in_force (filter (λ r. nat_le r.day day) t)) fs (record { kind = kind.Returned; due_cycle = n; cycle = e; day = day }) m l)
by-parts t fs i k n e day x m y l p q r = rw (p, q, r) refl

-- what is charged is the fold's fee
pub fee-is : (g : Given) (day : ℕ) (c : Cycle) (b : Book) (t : List FeeRow) (i : Option (List Fee)) (fs : List Fee) (a : Anchor) (cycles : List Cycle) (least : ℕ)
    → IsSound g → opened_in g ≤ day → day ≤ last_request_day → cycles ≡ (before g day).cycles → b.cycles ≡ cycles → b.fees ≡ fs → t ≡ g.shared.fees → i ≡ issued_fees (row_for (length cycles + 1) g.issued) → a ≡ anchor_of g.history
    → least ≡ asked (seen_in g day).issued (last_due day cycles)
    → charged_by fees_for i (fee_by (row_in_force (filter (λ r. nat_le r.day day) t)) fs (record { kind = kind.Returned; due_cycle = c.number; cycle = cycle_of a day; day = day }) c.minimum least) ≡ penalty_fee (row_in g (day - opened_in g)) (seen_in g day) b kind.Returned c
fee-is g day c b t i fs a cycles least s o l same own fees table issued anchor asks =
    let seen = seen_in g day in
    let row = row_in g (day - opened_in g) in
    let count : present_cycle b ≡ cycle_of (anchor_of g.history) day = counted-cycles g day b.cycles s o (own ∙ same) in
    let its : i ≡ issued_fees row = issued ∙ ap (λ (cs : List Cycle). issued_fees (row_for (length cs + 1) g.issued)) same in
    let alike : fee_by (row_in_force (filter (λ r. nat_le r.day day) t)) fs (record { kind = kind.Returned; due_cycle = c.number; cycle = cycle_of a day; day = day }) c.minimum least
    ≡ fee_by (row_in_force (filter (λ r. nat_le r.day day) g.shared.fees)) b.fees (record { kind = kind.Returned; due_cycle = c.number; cycle = present_cycle b; day = day }) c.minimum (asked seen.issued (last_due day b.cycles)) =
    many t g.shared.fees fs b.fees (cycle_of a day) (present_cycle b) least (asked seen.issued (last_due day b.cycles)) table (sym fees) (ap (λ x. cycle_of x day) anchor ∙ sym count) (asks ∙ ap (λ cs. asked seen.issued (last_due day cs)) (sym own)) in
    ap (λ u. charged_by fees_for u (fee_by (row_in_force (filter (λ r. nat_le r.day day) t)) fs (record { kind = kind.Returned; due_cycle = c.number; cycle = cycle_of a day; day = day }) c.minimum least)) its
    ∙ (ap (charged_by fees_for (issued_fees row)) alike ∙ sym (caps-fold row (fee_for seen b.cycles b.fees (present_cycle b) kind.Returned c)))
  where
    many : (t u : List FeeRow) (fs gs : List Fee) (d e x y : ℕ) → t ≡ u → fs ≡ gs → d ≡ e → x ≡ y
        → fee_by (row_in_force (filter (λ r. nat_le r.day day) t)) fs (record { kind = kind.Returned; due_cycle = c.number; cycle = d; day = day }) c.minimum x ≡ fee_by (row_in_force (filter (λ r. nat_le r.day day) u)) gs (record { kind = kind.Returned; due_cycle = c.number; cycle = e; day = day }) c.minimum y
    many t u fs gs d e x y p q r w = rw (p, q, r, w) refl

-- ---- it is of few cents
above-low : (n : ℕ) (f g : Fee) → fee_above n f ≡ Some g → pos 0 ≤ℤ g.cents
above-low zero f g e = cc
above-low (suc n) f g e = let same : pos (suc n) ≡ g.cents = cc in rw (← same) (omega (arith, ints))

charged-low : (issued : Option IssuedRow) (o : Option Fee) (g : Fee) → charged_fee issued o ≡ Some g → pos 0 ≤ℤ g.cents
charged-low issued None g e = cc
charged-low issued (Some f) g e = above-low (capped_by (issued_fee f.due_cycle) issued (fee_cents f)) f g e

returned-low : (issued : Option IssuedRow) (seen : Seen) (b : Book) (c : Option Cycle) (f : Fee) → returned_fee issued seen b c ≡ Some f → pos 0 ≤ℤ f.cents
returned-low issued seen b None f e = cc
returned-low issued seen b (Some c) f e = charged-low issued (fee_for seen b.cycles b.fees (present_cycle b) kind.Returned c) f e

pub high-of : (z : ℤ) → at_least_zero z ≤ 100000 → z ≤ℤ pos balance_limit
high-of (pos n) h = omega (arith, ints)
high-of (negsuc n) h = omega (arith, ints)

pub chargeable : (g : Given) (day : ℕ) (issued : Option IssuedRow) (b : Book) (c : Option Cycle) (f : Fee) → IsSound g → returned_fee issued (seen_in g day) b c ≡ Some f → (pos 0 ≤ℤ f.cents) × (f.cents ≤ℤ pos balance_limit)
chargeable g day issued b c f s e =
    let l = limits-on (anchor_of g.history) g.shared g.history g.issued day (folded-few (anchor_of g.history) g.shared.holidays g.history s.accepted.cents) s.fees in
    (returned-low issued (seen_in g day) b c f e, high-of f.cents (returned-small issued (seen_in g day) b c l f e))
