use Rattle.std.proofs.Common.{◌≡◌, ◌≤◌, List, [], ◌∷◌, length, sym, ap, subst, ◌∙◌, Option, Some, Result, Ok, Err}
use Rattle.std.specs.Prelude.{IfOk}
use Rattle.card_model.specs.Cycles.{Cycle, IssuedRow}
use Rattle.card_model.specs.Folds.{cycle_at, row_of_cycle}
use Rattle.card_past.proofs.CycleBefore.{there-is}
use Rattle.card_past.specs.Rows.{issued_as, row_on, sheet_on}
use Rattle.card_past.proofs.issuing.row_of.Goals as goal

-- a row in memory of its own
if-any-issued : {E : Type 0} (rows : List IssuedRow) (made : Option IssuedRow) (result : Result (Option IssuedRow) E) → IfOk result (λ x. x ≡ made) → issued_as made ≡ rows → IfOk result (λ x. issued_as x ≡ rows)
if-any-issued rows made (Ok x) is h = ap issued_as is ∙ h
if-any-issued rows made (Err e) is h = tt

pub row_at-requires-clause-first : goal.row_at-requires-clause-first
row_at-requires-clause-first c = (c.closed_number.ensures.some c.in-Some.number c.in-Some.is).1

pub row_at-requires-clause-closed : goal.row_at-requires-clause-closed
row_at-requires-clause-closed c =
    let is = c.closed_number.ensures.some c.in-Some.number c.in-Some.is in
    subst (λ (cs : List Cycle). c.in-Some.number ≤ length cs) c.deref.ensures.value is.2

pub returns-in_ok-row-in-Some : goal.returns-in_ok-row-in-Some
returns-in_ok-row-in-Some c =
    let g = c.args.inputs.now in
    let cycles = c.args.past.now.track.cycles.items in
    let is = c.closed_number.ensures.some c.in-Some.number c.in-Some.is in
    let closed = subst (λ (cs : List Cycle). c.in-Some.number ≤ length cs) c.deref.ensures.value is.2 in
    let at = there-is cycles c.in-Some.number is.1 closed in
    if-any-issued _ (Some c.in_ok-row-in-Some.row) c.of.result c.of.ensures
    (ap (λ (r : IssuedRow). r ∷ []) (c.in_ok-row-in-Some.ensures at.0 at.1)
    ∙ (ap (λ n. row_on g n c.args.bill c.args.day at.0 ∷ []) is.0
    ∙ ap (row_of_cycle c.args.cycle c.args.bill c.args.day (sheet_on g c.args.day)) (sym (ap (λ n. cycle_at n cycles) (sym is.0) ∙ at.1))))

pub returns-in-None : goal.returns-in-None
returns-in-None c =
    let g = c.args.inputs.now in
    let none = ap (cycle_at c.args.cycle) (sym c.deref.ensures.value) ∙ c.closed_number.ensures.none c.in-None.is in
    ap issued_as c.none.ensures ∙ ap (row_of_cycle c.args.cycle c.args.bill c.args.day (sheet_on g c.args.day)) (sym none)
