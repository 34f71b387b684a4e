-- What a call finds in the world and leaves there: what lies outside, and the door.
use Rattle.std.specs.Prelude.{◌≡◌, ◌⊎◌, ℕ, List, map, Option, Some, String}
use Rattle.std.specs.String.{string_bytes}
use Rattle.card_ports.specs.declared.row.Row.{Row}
use Rattle.card_ports.specs.Counts.{Rose}
use Rattle.card_ports.specs.Visits.{Visits}
use Rattle.card_commands.specs.Attended.{HaveCome, Parties, Serves}
use Rattle.card_commands.specs.Statuses.{status_of}
use Rattle.card_words.specs.Commands.{command_of}
use Rattle.card_commands.specs.Outside.{Outside, Outcome, outside, sides_of}
use Rattle.card_commands.specs.Quiet.{IsQuiet}
use Rattle.card_commands.specs.Views.{GaveNone, Loaded}
use Rattle.card_words.specs.declared.command.Command.{Command}
use Rattle.card_words.specs.declared.command.Command.TheVariants as command
use Rattle.card_commands.specs.declared.ended.Ended.{Ended}

-- what lies outside; the door, what it tells of its connections, and how often it failed
pub record World (I K D : Type 0) : Type 0 where
  pub around : Outside I K
  pub door : D
  pub visits : Option Visits
  pub door_faults : ℕ

-- what a source, a sink, a keeper and a door tell of themselves
abbrev pub world : {I O K D : Type 0} → (I → Option (List ℕ)) → (I → ℕ) → (O → Option (List ℕ)) → (O → ℕ) → (K → Option (List Row)) → (K → ℕ) → (D → Option Visits) → (D → ℕ) → I → O → K → D → World I K D
world left source_faults taken sink_faults rows keeper_faults visits door_faults input output keeper door = record {
  around = outside left source_faults taken sink_faults rows keeper_faults input output keeper;
  door = door;
  visits = visits door;
  door_faults = door_faults door;
}

-- a server was run from the ledger that the kept rows gave; or they gave none, and the door wasn't touched
abbrev pub MayServe : {D : Type 0} → ℕ → ℕ → D → D → Parties → Parties → Ended → Type 0
MayServe port count before now old new e =
    ((now ≡ before) × GaveNone old.sides new.sides e) ⊎ Loaded old.sides.keeper.rows (λ s. Serves (HaveCome port old.door.visits new.door.visits) count s old new e)

-- of these the sink, the keeper and the door
abbrev pub parties_of : {I K D : Type 0} → World I K D → Parties
parties_of w = record { sides = sides_of w.around; door = record { visits = w.visits; faults = w.door_faults } }

module _ {I K D : Type 0} (old new : World I K D) where
  -- a server was run from the ledger that the kept rows gave. The source wasn't touched
  pub record RanServer (port count : ℕ) (e : Ended) : Type 0 where
    pub input : new.around.input ≡ old.around.input
    pub source : new.around.source_faults ≡ old.around.source_faults
    pub ran : Loaded old.around.rows (λ s. Serves (HaveCome port old.visits new.visits) count s (parties_of old) (parties_of new) e)

  -- what a server comes to that has a ledger
  unfoldable pub ServedBy : Option Command → Ended → Type 0
  ServedBy (Some (command.Serve port count)) e = RanServer port count e
  ServedBy _ e = ⊥

  -- what a call comes to: the door stays as it was, and the command does what it does without one; or a server was run
  abbrev pub Comes : Option Command → Ended → Type 0
  Comes c e = ((new.door ≡ old.door) × Outcome old.around new.around c e) ⊎ ServedBy c e

  -- that of words: of the command that they are, or of none
  abbrev pub ComesOf : {Z : Type 0} → List (String Z) → Ended → Type 0
  ComesOf words e = Comes (command_of (map string_bytes words)) e

  -- words came to a status: what was read, written and kept, and which connections came, whatever the end is; and what failed,
  -- where the end names it
  abbrev pub Answered : {Z : Type 0} → List (String Z) → ℕ → Type 0
  Answered words status = (e : Ended) × (status ≡ status_of e) × ComesOf words e

  -- nothing gets in the way of the command
  pub record IsCalm (c : Command) : Type 0 where
    pub quiet : IsQuiet old.around new.around c
    pub door : Rose old.door_faults new.door_faults → ⊥
