-- What a sink took, and what a keeper kept.
use Rattle.std.specs.Prelude.{◌≡◌, ◌⊎◌, ℕ, List, [], Option}
use Rattle.std.specs.Io.KnownBytes.{Appends}
use Rattle.card_ports.specs.Rows.{AddsRows}
use Rattle.card_ports.specs.declared.row.Row.{Row}
use Rattle.card_ports.specs.Bytes.{IsFront}
use Rattle.card_ports.specs.Counts.{Rose}
use Rattle.card_ports.specs.Written.{SinkSide, TookFront, sink_side}
use Rattle.card_commands.specs.declared.stop.Stop.{Stop}
use Rattle.card_commands.specs.declared.stop.Stop.TheVariants as stop

-- a keeper: its rows, and how often it failed
pub record KeeperSide : Type 0 where
  pub rows : Option (List Row)
  pub faults : ℕ

-- both
pub record Sides : Type 0 where
  pub sink : SinkSide
  pub keeper : KeeperSide

-- what a sink and a keeper tell of themselves
abbrev pub sides : {O K : Type 0} → (O → Option (List ℕ)) → (O → ℕ) → (K → Option (List Row)) → (K → ℕ) → O → K → Sides
sides taken sink_faults rows keeper_faults output keeper =
    record { sink = sink_side taken sink_faults output; keeper = record { rows = rows keeper; faults = keeper_faults keeper } }

-- ---- a text

-- what was taken goes on with all of low, and then with a front of the rest of high
pub record TookBetween (old new : Option (List ℕ)) (low high : List ℕ) : Type 0 where
  pub bytes : List ℕ
  pub taken : Appends old new bytes
  pub whole : IsFront low bytes
  pub front : IsFront bytes high

-- ---- an item

-- the text was written, and the rows were kept
pub record Did (old new : Sides) (text : List ℕ) (rows : List Row) : Type 0 where
  pub written : Appends old.sink.taken new.sink.taken text
  pub kept : AddsRows old.keeper.rows new.keeper.rows rows

-- the rows were kept, and a front of the text was written
pub record DidPart (old new : Sides) (text : List ℕ) (rows : List Row) : Type 0 where
  pub took : TookFront old.sink.taken new.sink.taken text
  pub kept : AddsRows old.keeper.rows new.keeper.rows rows

-- nothing failed
pub record SameCounts (old new : Sides) : Type 0 where
  pub sink : new.sink.faults ≡ old.sink.faults
  pub keeper : new.keeper.faults ≡ old.keeper.faults

-- what failed is what an end names, and that alone
pub record SinkRose (old new : Sides) : Type 0 where
  pub rose : Rose old.sink.faults new.sink.faults
  pub keeper : new.keeper.faults ≡ old.keeper.faults

pub record KeeperRose (old new : Sides) : Type 0 where
  pub rose : Rose old.keeper.faults new.keeper.faults
  pub sink : new.sink.faults ≡ old.sink.faults

abbrev pub Failed : Sides → Sides → Stop → Type 0
Failed old new stop.Sink = SinkRose old new
Failed old new stop.Keeper = KeeperRose old new
Failed old new stop.Memory = SameCounts old new
Failed old new stop.Source = ⊥
Failed old new stop.Endless = ⊥

-- what was done of an item that ended the run: nothing, or all but that of its text a front was written
abbrev pub DidSome : Sides → Sides → List ℕ → List Row → Stop → Type 0
DidSome old new text rows stop.Keeper = Did old new [] []
DidSome old new text rows e = Did old new [] [] ⊎ DidPart old new text rows

-- an item with this text and these rows ended the run
pub record FellIn (old new : Sides) (text : List ℕ) (rows : List Row) (e : Stop) : Type 0 where
  pub did : DidSome old new text rows e
  pub cause : Failed old new e
