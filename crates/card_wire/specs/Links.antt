-- What reading and writing do to a connection.
use Rattle.std.specs.Prelude.{◌≡◌, ℕ, List}
use Rattle.std.specs.Io.KnownBytes.{Consumes, Appends, IsAtEnd}
use Rattle.card_ports.specs.Counts.{Rose}
use Rattle.card_ports.specs.Visits.{Wire}
use Rattle.card_ports.specs.Written.{TookFront}
use Rattle.card_ports.specs.declared.source.SinkFault.{SinkFault}
use Rattle.card_ports.specs.declared.source.SinkFault.TheVariants as fault
use Rattle.card_wire.specs.declared.stop.Stop.{Stop}
use Rattle.card_wire.specs.declared.stop.Stop.TheVariants as stop

-- these bytes were read, and nothing else changed
pub record Read (w v : Wire) (bytes : List ℕ) : Type 0 where
  pub left : Consumes w.left v.left bytes
  pub taken : v.taken ≡ w.taken
  pub faults : v.faults ≡ w.faults

-- these bytes were read, and then the connection failed
pub record Broke (w v : Wire) (bytes : List ℕ) : Type 0 where
  pub left : Consumes w.left v.left bytes
  pub taken : v.taken ≡ w.taken
  pub rose : Rose w.faults v.faults

-- these bytes were read, and then none came
abbrev pub Stopped : Wire → Wire → List ℕ → Stop → Type 0
Stopped w v bytes stop.Ended = Read w v bytes × IsAtEnd v.left
Stopped w v bytes stop.Failed = Broke w v bytes

-- these bytes were written, and nothing else changed
pub record Sent (w v : Wire) (bytes : List ℕ) : Type 0 where
  pub left : v.left ≡ w.left
  pub taken : Appends w.taken v.taken bytes
  pub faults : v.faults ≡ w.faults

-- what failed is what the fault names
abbrev pub SendFailed : Wire → Wire → SinkFault → Type 0
SendFailed w v fault.Failed = Rose w.faults v.faults
SendFailed w v fault.Memory = v.faults ≡ w.faults

-- a front of these bytes was written
pub record SentFront (w v : Wire) (bytes : List ℕ) (f : SinkFault) : Type 0 where
  pub left : v.left ≡ w.left
  pub taken : TookFront w.taken v.taken bytes
  pub cause : SendFailed w v f
