use Rattle.std.proofs.Common.{◌≡◌, ◌∙◌, pos, ap, arith, w64, to_z}
use Rattle.std.proofs.lemmas.Int.{to_z_pos}
use Rattle.jiff_core.proofs.DateLemmas.{civil}
use Rattle.jiff_core.specs.Date.{epoch_day}
use Rattle.jiff_core.specs.declared.civil.date.Date.{Date}
use Rattle.card_events.proofs.DateFacts.{library_date, date_of-in_calendar}
use Rattle.card_events.proofs.day.Day.date.Goals as goal

pub returns-clause-year : goal.returns-clause-year
returns-clause-year c =
    let fits : to_z w64 c.self.inside.number ≡ pos c.self.inside.number = to_z_pos w64 c.self.inside.number (omega arith) in
    let number : epoch_day c.in-Ok.date ≡ pos c.args.self = c.in-Ok.ensures.value ∙ fits ∙ ap pos c.self.view_is in
    ap (λ (d : Date). d.year) c.from_plain.ensures ∙ (library_date c.in-Ok.date.year c.in-Ok.date.month c.in-Ok.date.day c.args.self (omega arith) (civil c.in-Ok.date) number).year

pub returns-clause-month : goal.returns-clause-month
returns-clause-month c =
    let fits : to_z w64 c.self.inside.number ≡ pos c.self.inside.number = to_z_pos w64 c.self.inside.number (omega arith) in
    let number : epoch_day c.in-Ok.date ≡ pos c.args.self = c.in-Ok.ensures.value ∙ fits ∙ ap pos c.self.view_is in
    ap (λ (d : Date). d.month) c.from_plain.ensures ∙ (library_date c.in-Ok.date.year c.in-Ok.date.month c.in-Ok.date.day c.args.self (omega arith) (civil c.in-Ok.date) number).month

pub returns-clause-day : goal.returns-clause-day
returns-clause-day c =
    let fits : to_z w64 c.self.inside.number ≡ pos c.self.inside.number = to_z_pos w64 c.self.inside.number (omega arith) in
    let number : epoch_day c.in-Ok.date ≡ pos c.args.self = c.in-Ok.ensures.value ∙ fits ∙ ap pos c.self.view_is in
    ap (λ (d : Date). d.day) c.from_plain.ensures ∙ (library_date c.in-Ok.date.year c.in-Ok.date.month c.in-Ok.date.day c.args.self (omega arith) (civil c.in-Ok.date) number).day

pub returns-clause-in_calendar : goal.returns-clause-in_calendar
returns-clause-in_calendar c = date_of-in_calendar c.args.self (omega (arith, c.self.view_is)) (omega (arith, c.self.view_is))
