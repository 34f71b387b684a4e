-- The ledger that kept rows give, and what is told of it.
use Rattle.std.specs.Prelude.{◌≡◌, ◌⊎◌, ℕ, List, [], Option, Some, None, ⊤}
use Rattle.std.specs.Option.{unwrap_or}
use Rattle.std.specs.Io.KnownBytes.{Appends}
use Rattle.card_desk.specs.Kept.{Fits, IsLoadedOf}
use Rattle.card_ports.specs.Rows.{KeepsRows}
use Rattle.card_ports.specs.declared.row.Row.{Row}
use Rattle.card_model.specs.Machine.{State}
use Rattle.card_text.specs.Absent.{none_line}
use Rattle.card_ports.specs.Counts.{Rose}
use Rattle.card_commands.specs.Said.{DamagedRows, TookLine}
use Rattle.card_ports.specs.Written.{SinkSide, TookFront}
use Rattle.card_commands.specs.Written.{Sides, SameCounts}
use Rattle.card_commands.specs.declared.ended.Ended.{Ended}
use Rattle.card_commands.specs.declared.ended.Ended.TheVariants as ended

-- the kept rows gave a ledger, and P is so of it
pub record Loaded (rows : Option (List Row)) (P : State → Type 0) : Type 0 where
  pub ledger : State
  pub loaded : IsLoadedOf rows ledger
  pub ran : P ledger

-- no ledger was loaded: the keeper failed, memory was wanted, or the rows are damaged, which is said
abbrev pub NotLoaded : Sides → Sides → Ended → Type 0
NotLoaded old new ended.Keeper = Appends old.sink.taken new.sink.taken []
NotLoaded old new ended.Memory = Appends old.sink.taken new.sink.taken [] ⊎ DamagedRows old.keeper.rows (TookFront old.sink.taken new.sink.taken)
NotLoaded old new ended.Damaged = DamagedRows old.keeper.rows (TookLine old.sink.taken new.sink.taken old.sink.faults new.sink.faults)
NotLoaded old new _ = ⊥

-- one text was written, or a front of it; None is that what is asked for isn't there, which is said
abbrev pub Tells : Option (List ℕ) → Option (List ℕ) → Ended → Option (List ℕ) → Type 0
Tells old new ended.Done (Some text) = Appends old new text
Tells old new ended.Refused None = Appends old new none_line
Tells old new ended.Sink text = TookFront old new (unwrap_or text none_line)
Tells old new ended.Memory text = TookFront old new (unwrap_or text none_line)
Tells old new _ _ = ⊥

-- what failed of a sink and a keeper is what an end names
abbrev pub SidesFailed : Sides → Sides → Ended → Type 0
SidesFailed old new ended.Sink = Rose old.sink.faults new.sink.faults
SidesFailed old new ended.Keeper = Rose old.keeper.faults new.keeper.faults
SidesFailed old new ended.Damaged = ⊤
SidesFailed old new _ = SameCounts old new

-- the kept rows gave this ledger, and nothing changed
pub record GaveLedger (old new : Sides) (s : State) : Type 0 where
  pub loaded : IsLoadedOf old.keeper.rows s
  pub fits : Fits new.keeper.rows s
  pub sink : new.sink ≡ old.sink
  pub rows : KeepsRows old.keeper.rows new.keeper.rows
  pub count : new.keeper.faults ≡ old.keeper.faults

-- they gave none
pub record GaveNone (old new : Sides) (e : Ended) : Type 0 where
  pub ends : NotLoaded old new e
  pub rows : KeepsRows old.keeper.rows new.keeper.rows
  pub cause : SidesFailed old new e

-- what failed of a sink is what an end names
abbrev pub SinkEnded : SinkSide → SinkSide → Ended → Type 0
SinkEnded old new ended.Sink = Rose old.faults new.faults
SinkEnded old new _ = new.faults ≡ old.faults

-- the text was told, or a front of it
pub record Told (old new : SinkSide) (text : Option (List ℕ)) (e : Ended) : Type 0 where
  pub ends : Tells old.taken new.taken e text
  pub cause : SinkEnded old new e

-- a ledger was loaded, and its text told; or none was
pub record Viewed (old new : Sides) (text : State → Option (List ℕ)) (e : Ended) : Type 0 where
  pub ends : NotLoaded old new e ⊎ Loaded old.keeper.rows (λ s. Tells old.sink.taken new.sink.taken e (text s))
  pub rows : KeepsRows old.keeper.rows new.keeper.rows
  pub cause : SidesFailed old new e
