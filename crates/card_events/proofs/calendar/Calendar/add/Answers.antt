use Rattle.std.proofs.Common.{◌∙◌, ℕ, List, arith, sym, ap, subst}
use Rattle.std.specs.List.{insert}
use Rattle.std.proofs.lemmas.Bool.{false≢true}
use Rattle.card_events.specs.Kept.{AreHolidays, IsGapFor}
use Rattle.card_events.proofs.Holidays.{known, absent, inserted, keeps_order}
use Rattle.card_events.proofs.calendar.Calendar.add.Goals as goal

pub returns-in_err-insert-in-Err-clause-known : goal.returns-in_err-insert-in-Err-clause-known
returns-in_err-insert-in-Err-clause-known c = λ is. absurd (false≢true (sym (absent c.args.self.now c.args.day c.in-Err.index c.in-Err.ensures.place) ∙ is))

pub invariant_of-self-in-Err : goal.invariant_of-self-in-Err
invariant_of-self-in-Err c =
    let gap = subst (λ (xs : List ℕ). IsGapFor xs c.args.day c.in-Err.index) (sym c.self.view_is) c.in-Err.ensures.place in
    let kept = keeps_order 0 c.self.inside.holidays.items c.args.day c.self.invariant (omega arith) c.requires in
    subst (λ (xs : List ℕ). AreHolidays 0 xs) (inserted c.self.inside.holidays.items c.args.day c.in-Err.index gap ∙ sym c.in_ok-insert-in-Err.ensures.items) kept

pub returns-in-Ok-clause-added : goal.returns-in-Ok-clause-added
returns-in-Ok-clause-added c = sym (known 0 c.args.self.now c.args.day c.in-Ok.field-0 c.in-Ok.ensures.ordered c.in-Ok.ensures.place.0 c.in-Ok.ensures.place.1)

pub returns-in_ok-insert-in-Err-clause-added : goal.returns-in_ok-insert-in-Err-clause-added
returns-in_ok-insert-in-Err-clause-added c =
    c.in_ok-insert-in-Err.ensures.items ∙ ap (λ (xs : List ℕ). insert xs c.in-Err.index c.args.day) c.self.view_is ∙ sym (inserted c.args.self.now c.args.day c.in-Err.index c.in-Err.ensures.place)
