-- Rows that go on from a state.
use Rattle.std.proofs.Common.{◌≡◌, ◌+◌, List, [], Some, refl, sym, ap, ◌∙◌}
use Rattle.card_desk.specs.Kept.{Fits, accepted_count, posts_in}
use Rattle.card_ports.specs.Rows.{KeepsRows, next_after, next_seq}
use Rattle.card_ports.specs.declared.row.Row.{Row}
use Rattle.card_model.specs.Machine.{State, start}

-- rows and state are as they were
pub fits_stays : (rows new : List Row) (s t : State) → KeepsRows (Some rows) (Some new) → t ≡ s → Fits (Some rows) s → Fits (Some new) t
fits_stays rows new s t keeps same fits = ap (λ (l : List Row). next_seq l) keeps ∙ (fits ∙ ap (λ (x : State). accepted_count x + 1) (sym same))

-- no row, and the start
pub new_fits : Fits (Some []) start
unfolding next_after posts_in
new_fits = refl
