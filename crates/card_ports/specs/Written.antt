-- What a sink took of a text.
use Rattle.std.specs.Prelude.{◌≡◌, ℕ, List, Option}
use Rattle.std.specs.Io.KnownBytes.{Appends}
use Rattle.card_ports.specs.Bytes.{IsFront}
use Rattle.card_ports.specs.Counts.{Rose}
use Rattle.card_ports.specs.declared.source.SinkFault.{SinkFault}
use Rattle.card_ports.specs.declared.source.SinkFault.TheVariants as fault

-- a sink: the bytes that it took, and how often it failed
pub record SinkSide : Type 0 where
  pub taken : Option (List ℕ)
  pub faults : ℕ

-- what a sink tells of itself
abbrev pub sink_side : {O : Type 0} → (O → Option (List ℕ)) → (O → ℕ) → O → SinkSide
sink_side taken faults output = record { taken = taken output; faults = faults output }

-- what was taken goes on with a front of the text
pub record TookFront (old new : Option (List ℕ)) (text : List ℕ) : Type 0 where
  pub bytes : List ℕ
  pub taken : Appends old new bytes
  pub front : IsFront bytes text

-- the whole text was taken, and nothing failed
pub record TookAll (old new : SinkSide) (text : List ℕ) : Type 0 where
  pub written : Appends old.taken new.taken text
  pub count : new.faults ≡ old.faults

-- what failed of a sink is what the fault names
abbrev pub SinkFailed : SinkSide → SinkSide → SinkFault → Type 0
SinkFailed old new fault.Failed = Rose old.faults new.faults
SinkFailed old new fault.Memory = new.faults ≡ old.faults

-- a fault let a front of the text be taken alone
pub record TookPart (old new : SinkSide) (text : List ℕ) (f : SinkFault) : Type 0 where
  pub took : TookFront old.taken new.taken text
  pub cause : SinkFailed old new f
