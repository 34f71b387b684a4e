-- How the rows are loaded one after the other.
use Rattle.std.specs.Prelude.{◌≡◌, ℕ}
use Rattle.card_events.specs.declared.request.Request.{Request}
use Rattle.card_ports.specs.declared.row.Row.{Row}
use Rattle.card_model.specs.Machine.{State, step}
use Rattle.card_desk.specs.Kept.{IsNewRow}

-- row n is that of a request which is newly accepted, and which leads from the one state to the other
pub record GoesOn (s : State) (n : ℕ) (row : Row) (next : State) : Type 0 where
  pub request : Request
  pub is_row : IsNewRow s n row request
  pub step_is : next ≡ (step s request).0
