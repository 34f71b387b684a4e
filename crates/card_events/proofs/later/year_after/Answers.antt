use Rattle.std.proofs.Common.{◌≡◌, ◌∙◌, arith, inl, inr, ◌⊎◌, ℕ}
use Rattle.card_events.specs.Civil.{date_of}
use Rattle.card_events.proofs.LaterDays.{year_leap, year_plain, year_small}
use Rattle.card_events.proofs.DateFacts.{date_of-in_calendar}
use Rattle.card_events.proofs.later.year_after.Goals as goal

pub clipped-requires-else-month-eq2-clause-year_high : goal.clipped-requires-else-month-eq2-clause-year_high
clipped-requires-else-month-eq2-clause-year_high c = omega (arith, year_small c.args.day c.ymd-year.ensures.first c.requires, c.ymd-year.ensures.year)

pub returns-then-d-eq29 : goal.returns-then-d-eq29
returns-then-d-eq29 c =
    let at = c.ymd-year.ensures in
    c.clipped.ensures ∙ year_leap (date_of c.args.day) c.ymd-year.result.0 c.ymd-year.result.1 c.ymd-year.result.2 at.year at.month at.day c.if-month-eq2.true c.if-d-eq29.true

other : (m d : ℕ) → (m ≡ 2 × (d ≡ 29 → ⊥)) ⊎ (m ≡ 2 → ⊥) → m ≡ 2 → d ≡ 29 → ⊥
other m d (inl h) two last = h.1 last
other m d (inr h) two last = h two

pub returns-else-month-eq2 : goal.returns-else-month-eq2
returns-else-month-eq2 c =
    let at = c.ymd-year.ensures in
    c.clipped-else-month-eq2.ensures ∙ year_plain (date_of c.args.day) c.ymd-year.result.0 c.ymd-year.result.1 c.ymd-year.result.2 (date_of-in_calendar c.args.day at.first at.last) at.year at.month at.day (other c.ymd-year.result.1 c.ymd-year.result.2 c.else-month-eq2.either)
