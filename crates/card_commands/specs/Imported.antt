-- What was read, written and kept of a run over records.
use Rattle.std.specs.Prelude.{◌≡◌, ℕ, ◌||◌, List, ◌++◌, length, Option}
use Rattle.std.specs.Io.KnownBytes.{Consumes, IsAtEnd}
use Rattle.card_desk.specs.Kept.{Fits}
use Rattle.card_text.specs.declared.item.Item.{Item}
use Rattle.card_ports.specs.Rows.{AddsRows}
use Rattle.card_model.specs.Machine.{State}
use Rattle.card_ports.specs.Counts.{Rose}
use Rattle.card_commands.specs.Feed.{Run}
use Rattle.card_commands.specs.Input.{records}
use Rattle.card_commands.specs.Outside.{Outside, AreFirst, but_last}
use Rattle.card_commands.specs.Run.{after, text_of, rows_kept, any_refused}
use Rattle.card_commands.specs.Written.{Sides, TookBetween, Did, SameCounts, Failed}
use Rattle.card_commands.specs.declared.stop.Stop.{Stop}
use Rattle.card_commands.specs.declared.stop.Stop.TheVariants as stop

-- ---- reading

-- a source: the bytes left in it, and how often it failed
pub record SourceSide : Type 0 where
  pub left : Option (List ℕ)
  pub faults : ℕ

-- what a source tells of itself
abbrev pub source_side : {I : Type 0} → (I → Option (List ℕ)) → (I → ℕ) → I → SourceSide
source_side left faults input = record { left = left input; faults = faults input }

-- of what lies outside, the source
abbrev pub source_of : {I K : Type 0} → Outside I K → SourceSide
source_of o = record { left = o.left; faults = o.source_faults }

-- these bytes were read
pub record HasTaken (old new : SourceSide) (bytes : List ℕ) : Type 0 where
  pub read : Consumes old.left new.left bytes
  pub count : new.faults ≡ old.faults

-- so many bytes were read, and stand behind those before; none is the end
pub record TookMore (old new : SourceSide) (before now : List ℕ) (count : ℕ) : Type 0 where
  pub more : List ℕ
  pub length_is : length more ≡ count
  pub joined : now ≡ before ++ more
  pub taken : HasTaken old new more
  pub ends : count ≡ 0 → IsAtEnd new.left

-- all bytes were read
pub record TookAllLeft (old new : SourceSide) (bytes : List ℕ) : Type 0 where
  pub taken : HasTaken old new bytes
  pub ends : IsAtEnd new.left

-- why a piece is the last
abbrev pub PieceEnded : SourceSide → SourceSide → Stop → Type 0
PieceEnded old new stop.Source = Rose old.faults new.faults
PieceEnded old new stop.Memory = new.faults ≡ old.faults
PieceEnded old new _ = ⊥

-- bytes of a piece were read, or none
pub record FellInPiece (old new : SourceSide) (e : Stop) : Type 0 where
  pub bytes : List ℕ
  pub read : Consumes old.left new.left bytes
  pub cause : PieceEnded old new e

-- why these bytes are not all
abbrev pub SourceEnded : SourceSide → SourceSide → List ℕ → Stop → Type 0
SourceEnded old new bytes stop.Endless = (length bytes ≡ records.limit) × (new.faults ≡ old.faults)
SourceEnded old new bytes e = PieceEnded old new e

-- bytes were read, and no end came
pub record FellTaking (old new : SourceSide) (e : Stop) : Type 0 where
  pub bytes : List ℕ
  pub read : Consumes old.left new.left bytes
  pub cause : SourceEnded old new bytes e

-- ---- handling

-- items were handled: their texts were written, and their rows kept
pub record HandledAll (old new : Sides) (r : Run) (items : List Item) (q : Run) : Type 0 where
  pub ledger : q.ledger ≡ after r.ledger items
  pub refused : q.refused ≡ (r.refused || any_refused r.ledger items)
  pub did : Did old new (text_of r.ledger items) (rows_kept r.ledger items)
  pub counts : SameCounts old new
  pub fits : Fits new.keeper.rows q.ledger

-- the rows of these items were kept, and their texts written, but of the last a front
pub record DidFront (old new : Sides) (s : State) (items : List Item) : Type 0 where
  pub took : TookBetween old.sink.taken new.sink.taken (text_of s (but_last items)) (text_of s items)
  pub kept : AddsRows old.keeper.rows new.keeper.rows (rows_kept s items)

-- what was done of the items of a run that was ended
abbrev pub DidFirst : Sides → Sides → State → List Item → Stop → Type 0
DidFirst old new s items stop.Keeper = Did old new (text_of s items) (rows_kept s items)
DidFirst old new s items stop.Sink = DidFront old new s items
DidFirst old new s items stop.Memory = DidFront old new s items
DidFirst old new s items _ = ⊥

-- the first of all items were handled, and then the run ended
pub record FellAmong (old new : Sides) (s : State) (all : List Item) (e : Stop) : Type 0 where
  pub items : List Item
  pub first : AreFirst items all
  pub did : DidFirst old new s items e
  pub cause : Failed old new e
