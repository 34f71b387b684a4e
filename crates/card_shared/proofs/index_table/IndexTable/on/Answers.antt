use Rattle.std.proofs.Common.{◌≡◌, ◌≤◌, nat_le, length, List, Some, arith, ap, ◌∙◌}
use Rattle.card_events.specs.SharedRows.{IndexRow}
use Rattle.card_model.specs.Rates.{index_on}
use Rattle.card_shared.specs.IndexTable.{index_rows, leading}
use Rattle.card_shared.specs.declared.index_table.Row.{Row}
use Rattle.card_shared.proofs.IndexFound.{leading-up_to, none-on, rate-on}
use Rattle.card_shared.proofs.index_table.IndexTable.on.Goals as goal

pub returns-then-count-eq0 : goal.returns-then-count-eq0
returns-then-count-eq0 c =
    let items = c.self.inside.rows.items in
    let at : c.up_to-count.result ≡ leading (λ r. nat_le r.day c.args.day) (index_rows items) = c.up_to-count.ensures ∙ ap (λ (xs : List Row). leading (λ r. nat_le r.day c.args.day) (index_rows xs)) c.deref.ensures.value in
    none-on c.args.day items c.up_to-count.result c.self.invariant at c.if-count-eq0.true ∙ ap (λ (xs : List IndexRow). index_on xs c.args.day) c.self.view_is

pub index-requires : goal.index-requires
index-requires c =
    let items = c.self.inside.rows.items in
    let at : c.up_to-count.result ≡ leading (λ r. nat_le r.day c.args.day) (index_rows items) = c.up_to-count.ensures ∙ ap (λ (xs : List Row). leading (λ r. nat_le r.day c.args.day) (index_rows xs)) c.deref.ensures.value in
    let most : leading (λ r. nat_le r.day c.args.day) (index_rows items) ≤ length items = leading-up_to (λ r. nat_le r.day c.args.day) items in
    omega (arith, at, most, c.if-count-eq0.false)

pub returns : goal.returns
returns c =
    let items = c.self.inside.rows.items in
    let at : c.up_to-count.result ≡ leading (λ r. nat_le r.day c.args.day) (index_rows items) = c.up_to-count.ensures ∙ ap (λ (xs : List Row). leading (λ r. nat_le r.day c.args.day) (index_rows xs)) c.deref.ensures.value in
    ap (λ (r : Row). Some r.rate) c.index.ensures ∙ rate-on c.args.day items c.up_to-count.result _ c.self.invariant at c.if-count-eq0.false ∙ ap (λ (xs : List IndexRow). index_on xs c.args.day) c.self.view_is
