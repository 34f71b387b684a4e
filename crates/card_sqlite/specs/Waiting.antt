-- Rows and replies that wait for one another.
use Rattle.std.specs.Prelude.{◌≡◌, ◌⊎◌, ℕ, ◌-◌, ◌==◌, Bool, true, false, List, [], ◌++◌, length, Option, None, Some, option_map, slice_get, IsTrue}
use Rattle.std.specs.Io.KnownBytes.{Appends, append_known}
use Rattle.card_ports.specs.Counts.{Rose}
use Rattle.card_ports.specs.Rows.{AddsRows, KeepsRows, SameRowsTold}
use Rattle.card_ports.specs.declared.keeper.KeeperFault.{KeeperFault}
use Rattle.card_ports.specs.declared.keeper.KeeperFault.TheVariants as fault
use Rattle.card_ports.specs.declared.row.Row.{Row}
use Rattle.card_sqlite.specs.declared.flush.Lost.{Lost}
use Rattle.card_sqlite.specs.declared.flush.Lost.TheVariants as lost

-- the rows that are kept and the bytes that are written, where they are told; what waits behind them; what was lost; whether the end
-- of a reply came last, so that no row waits for the rest of its own; and how often the keeper failed
pub record Held : Type 0 where
  pub kept : Option (List Row)
  pub waiting : List Row
  pub written : Option (List ℕ)
  pub replies : List ℕ
  pub lost : Option Lost
  pub is_between : Bool
  pub faults : ℕ

-- all rows, and all bytes: those that wait stand behind the others
abbrev pub all_rows : Held → Option (List Row)
all_rows h = option_map (λ rows. rows ++ h.waiting) h.kept

abbrev pub all_bytes : Held → Option (List ℕ)
all_bytes h = append_known h.written h.replies

-- nothing waits yet, and nothing was lost
abbrev pub starting : Option (List Row) → Option (List ℕ) → ℕ → Held
starting kept written faults = record { kept = kept; waiting = []; written = written; replies = []; lost = None; is_between = true; faults = faults }

abbrev pub is_feed : Option ℕ → Bool
is_feed None = false
is_feed (Some byte) = byte == 10

-- whether the bytes end a reply: their last is a line feed
abbrev pub ends_reply : List ℕ → Bool
ends_reply bytes = is_feed (slice_get bytes (length bytes - 1))

-- no row was kept and nothing was written, or it was done between two replies: so no row is parted from the reply to it
abbrev pub PartsNone : Held → Held → Bool → Type 0
PartsNone old new between = ((new.kept ≡ old.kept) × (new.written ≡ old.written)) ⊎ IsTrue between

abbrev pub NoneWaits : Held → Type 0
NoneWaits h = (h.waiting ≡ []) × (h.replies ≡ [])

-- all that waited is kept and written, and nothing was lost, before or now
pub record Settled (old new : Held) : Type 0 where
  pub kept : AddsRows old.kept new.kept old.waiting
  pub told : SameRowsTold old.kept new.kept
  pub written : Appends old.written new.written old.replies
  pub none : NoneWaits new
  pub before : old.lost ≡ None
  pub now : new.lost ≡ None
  pub between : new.is_between ≡ old.is_between
  pub faults : new.faults ≡ old.faults

-- the keeper was asked: a failure has raised its count, and want of memory hasn't
abbrev pub IsCounted : KeeperFault → ℕ → ℕ → Type 0
IsCounted fault.Failed old new = Rose old new
IsCounted fault.Memory old new = new ≡ old

-- the fault for which rows were lost
abbrev pub fault_in : Option Lost → Option KeeperFault
fault_in None = None
fault_in (Some (lost.Rows fault)) = Some fault
fault_in (Some lost.Replies) = None

-- rows were lost for this fault before, or the keeper was asked now
abbrev pub HasGround : KeeperFault → Held → ℕ → Type 0
HasGround fault old faults = (fault_in old.lost ≡ Some fault) ⊎ IsCounted fault old.faults faults

-- What became of what waited. Where rows were lost no row was kept, and nothing was written; where replies were, the rows are kept
abbrev pub Went : Lost → Held → Held → Type 0
Went (lost.Rows fault) old new = KeepsRows old.kept new.kept × (new.written ≡ old.written) × HasGround fault old new.faults
Went lost.Replies old new = AddsRows old.kept new.kept old.waiting × NoneWaits new × (new.faults ≡ old.faults)

-- something was lost, before or now
abbrev pub WentFor : Lost → Held → Held → Type 0
WentFor l old new = (new.lost ≡ Some l) × Went l old new × SameRowsTold old.kept new.kept × (new.is_between ≡ old.is_between)

-- rows were lost for this fault: those that are kept stay, and no reply was written
abbrev pub LostFor : KeeperFault → Held → Held → Type 0
LostFor fault old new = (fault_in new.lost ≡ Some fault) × KeepsRows old.kept new.kept × (new.written ≡ old.written) × HasGround fault old new.faults

-- all rows that waited are kept, and the replies are written where none was lost
pub record KeptAll (old new : Held) : Type 0 where
  pub kept : AddsRows old.kept new.kept old.waiting
  pub none : NoneWaits new
  pub written : new.lost ≡ None → Appends old.written new.written old.replies
  pub rows : fault_in new.lost ≡ None

-- no reply is taken any more: something was lost before, and all is as it was, or it was lost now
abbrev pub IsBroken : Held → Held → Type 0
IsBroken old new = (l : Lost) × (new.lost ≡ Some l) × ((new ≡ old) ⊎ Went l old new)
