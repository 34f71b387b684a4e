use Rattle.std.proofs.Common.{rules, ◌≡◌, ◌∙◌, ℤ, pos, ap, arith, w16, w32, to_z, of_z, FitsSigned, nat_abs, min}
use Rattle.std.proofs.lemmas.Int.{to_z_pos, to_z-of_z}
use Rattle.jiff_core.specs.Calendar.{days_in_month}
use Rattle.card_events.specs.Later.{clipped_day_at}
use Rattle.card_events.proofs.LaterDays.{clipped-range, clipped-number}
use Rattle.card_events.proofs.day.Day.clipped.Goals as goal

made : (c : goal.After-to_unix_epoch_day) → to_z w32 (of_z w32 c.to_unix_epoch_day.result) ≡ pos (clipped_day_at c.args.y c.args.m c.args.d)
made c =
    let date = c.constrain-date.result in
    let at = c.constrain-date.ensures in
    let y : to_z w16 c.args.y ≡ pos c.args.y = to_z_pos w16 c.args.y (omega (arith, c.requires.year_high)) in
    let day = at.day ∙ ap (λ (z : ℤ). min c.args.d (days_in_month z c.args.m)) y in
    let number = clipped-number date.year date.month date.day c.args.y c.args.m c.args.d (at.year ∙ y) at.month day (omega (arith, c.requires.year_low)) c.requires.day_low in
    let fits : FitsSigned w32 c.to_unix_epoch_day.result = search rules in
    to_z-of_z w32 c.to_unix_epoch_day.result fits ∙ c.to_unix_epoch_day.ensures.value ∙ number

pub overflow_cast-result : goal.overflow_cast-result
overflow_cast-result c =
    let range = clipped-range c.args.y c.args.m c.args.d c.requires.year_low c.requires.year_high c.requires.month_low c.requires.month_high c.requires.day_low in
    rw (made c) (tt, omega (arith, range.1))

pub invariant_of-result : goal.invariant_of-result
invariant_of-result c =
    let range = clipped-range c.args.y c.args.m c.args.d c.requires.year_low c.requires.year_high c.requires.month_low c.requires.month_high c.requires.day_low in
    rw (made c) range

pub returns : goal.returns
returns c = ap nat_abs (made c)
