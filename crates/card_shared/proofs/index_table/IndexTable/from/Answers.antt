use Rattle.std.proofs.Common.{◌≡◌, nat_lt, nat_le, List, ap, subst, ◌∙◌}
use Rattle.std.specs.List.{find}
use Rattle.std.specs.Option.{option_map}
use Rattle.std.specs.Prelude.{slice_get}
use Rattle.card_events.specs.SharedRows.{AreByDay, IndexRow}
use Rattle.card_shared.specs.IndexTable.{index_rows, leading}
use Rattle.card_shared.specs.declared.index_table.Row.{Row}
use Rattle.card_shared.proofs.IndexFound.{first-day}
use Rattle.card_shared.proofs.index_table.IndexTable.from.Goals as goal

pub returns-clause-found : goal.returns-clause-found
returns-clause-found c =
    let items = c.self.inside.rows.items in
    let at : c.before-at.result ≡ leading (λ r. nat_lt r.day c.args.day) (index_rows items) = c.before-at.ensures ∙ ap (λ (xs : List Row). leading (λ r. nat_lt r.day c.args.day) (index_rows xs)) c.deref.ensures.value in
    c.day_at.ensures ∙ ap (λ (xs : List Row). option_map (λ (r : Row). r.day) (slice_get xs c.before-at.result)) c.deref-2.ensures.value
    ∙ first-day c.args.day items c.before-at.result at ∙ ap (λ (xs : List IndexRow). option_map (λ (r : IndexRow). r.day) (find (λ r. nat_le c.args.day r.day) xs)) c.self.view_is

pub returns-clause-by_day : goal.returns-clause-by_day
returns-clause-by_day c = subst (AreByDay 0) c.self.view_is c.self.invariant
