use Rattle.std.proofs.Common.{◌≡◌, nat_lt, true, false, ◌≤◌, List, length, arith, sym, ap, ◌∙◌, subst}
use Rattle.std.specs.Prelude.{slice_get}
use Rattle.card_events.specs.SharedRows.{IndexRow, AreByDay, with_index}
use Rattle.card_shared.specs.IndexTable.{index_row, index_rows, is_day, leading}
use Rattle.card_shared.specs.declared.index_table.Row.{Row}
use Rattle.card_events.proofs.IndexRows.{index-by-day}
use Rattle.card_shared.proofs.IndexFound.{leading-up_to, with-set, with-insert}
use Rattle.card_shared.proofs.index_table.IndexTable.add.Goals as goal

pub invariant_of-self : goal.invariant_of-self
invariant_of-self c =
    let items = c.self.inside.rows.items in
    let row : Row = record { day = c.args.day; rate = c.args.rate } in
    let at : c.before-at.result ≡ leading (λ r. nat_lt r.day c.args.day) (index_rows items) = c.before-at.ensures ∙ ap (λ (xs : List Row). leading (λ r. nat_lt r.day c.args.day) (index_rows xs)) c.deref.ensures.value in
    let here : is_day c.args.day (slice_get items c.before-at.result) ≡ true = ap (λ (xs : List Row). is_day c.args.day (slice_get xs c.before-at.result)) (sym c.deref-2.ensures.value) ∙ sym c.is_at.ensures ∙ c.if-is_at.true in
    subst (λ (xs : List IndexRow). AreByDay 0 xs) (with-set items row c.before-at.result at here) (index-by-day 0 (index_rows items) (index_row row) c.self.invariant (omega arith))

pub insert-requires : goal.insert-requires
insert-requires c =
    let items = c.self.inside.rows.items in
    let at : c.before-at.result ≡ leading (λ r. nat_lt r.day c.args.day) (index_rows items) = c.before-at.ensures ∙ ap (λ (xs : List Row). leading (λ r. nat_lt r.day c.args.day) (index_rows xs)) c.deref.ensures.value in
    let most : leading (λ r. nat_lt r.day c.args.day) (index_rows items) ≤ length items = leading-up_to (λ r. nat_lt r.day c.args.day) items in
    omega (arith, at, most)

pub invariant_of-self-2 : goal.invariant_of-self-2
invariant_of-self-2 c =
    let items = c.self.inside.rows.items in
    let row : Row = record { day = c.args.day; rate = c.args.rate } in
    let at : c.before-at.result ≡ leading (λ r. nat_lt r.day c.args.day) (index_rows items) = c.before-at.ensures ∙ ap (λ (xs : List Row). leading (λ r. nat_lt r.day c.args.day) (index_rows xs)) c.deref.ensures.value in
    let other : is_day c.args.day (slice_get items c.before-at.result) ≡ false = ap (λ (xs : List Row). is_day c.args.day (slice_get xs c.before-at.result)) (sym c.deref-2.ensures.value) ∙ sym c.is_at.ensures ∙ c.if-is_at.false in
    subst (λ (xs : List IndexRow). AreByDay 0 xs) (with-insert items row c.before-at.result at other ∙ ap index_rows (sym c.in_ok-insert.ensures.items)) (index-by-day 0 (index_rows items) (index_row row) c.self.invariant (omega arith))

pub returns-then-is_at-clause-ok : goal.returns-then-is_at-clause-ok
returns-then-is_at-clause-ok c =
    let items = c.self.inside.rows.items in
    let row : Row = record { day = c.args.day; rate = c.args.rate } in
    let at : c.before-at.result ≡ leading (λ r. nat_lt r.day c.args.day) (index_rows items) = c.before-at.ensures ∙ ap (λ (xs : List Row). leading (λ r. nat_lt r.day c.args.day) (index_rows xs)) c.deref.ensures.value in
    let here : is_day c.args.day (slice_get items c.before-at.result) ≡ true = ap (λ (xs : List Row). is_day c.args.day (slice_get xs c.before-at.result)) (sym c.deref-2.ensures.value) ∙ sym c.is_at.ensures ∙ c.if-is_at.true in
    sym (with-set items row c.before-at.result at here) ∙ ap (with_index (index_row row)) c.self.view_is

pub returns-clause-ok : goal.returns-clause-ok
returns-clause-ok c =
    let items = c.self.inside.rows.items in
    let row : Row = record { day = c.args.day; rate = c.args.rate } in
    let at : c.before-at.result ≡ leading (λ r. nat_lt r.day c.args.day) (index_rows items) = c.before-at.ensures ∙ ap (λ (xs : List Row). leading (λ r. nat_lt r.day c.args.day) (index_rows xs)) c.deref.ensures.value in
    let other : is_day c.args.day (slice_get items c.before-at.result) ≡ false = ap (λ (xs : List Row). is_day c.args.day (slice_get xs c.before-at.result)) (sym c.deref-2.ensures.value) ∙ sym c.is_at.ensures ∙ c.if-is_at.false in
    ap index_rows c.in_ok-insert.ensures.items ∙ sym (with-insert items row c.before-at.result at other) ∙ ap (with_index (index_row row)) c.self.view_is
