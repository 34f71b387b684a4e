use Rattle.std.proofs.Common.{◌≡◌, ◌<◌, ℕ, eqb, sym, ap, ◌∙◌, arith}
use Rattle.std.specs.Prelude.{nat_lt}
use Rattle.card_model.specs.declared.entry.Entry.{Entry}
use Rattle.card_statement.proofs.InOrder.{begins-first, begins-later}
use Rattle.card_statement.proofs.standing.begins_day.Goals as goal

pub returns-then-place-eq0 : goal.returns-then-place-eq0
returns-then-place-eq0 c =
    let zero : c.args.place ≡ 0 = omega (arith, c.if-place-eq0.true) in
    ap (λ (n : ℕ). eqb n 0) zero ∙ sym (begins-first c.args.entries.now c.args.place c.args.day zero)

pub returns-else-place-eq0 : goal.returns-else-place-eq0
returns-else-place-eq0 c =
    let low : 0 < c.args.place = omega (arith, c.if-place-eq0.false) in
    c.is_after.ensures ∙ ap (λ (e : Entry). nat_lt e.day c.args.day) (sym c.index-entries-place.is) ∙ begins-later c.args.entries.now c.args.place c.args.day c.index-entries-place.result low c.requires.there c.index-entries-place.is
