-- What was read, written and kept of a run over bytes.
use Rattle.std.specs.Prelude.{◌≡◌, ℕ, ◌+◌, ◌-◌, ◌≤◌, Bool, List, length, take}
use Rattle.std.specs.Io.KnownBytes.{Consumes}
use Rattle.card_desk.specs.Kept.{Fits}
use Rattle.card_commands.specs.Answers.{answer_text, item_rows}
use Rattle.card_commands.specs.Statuses.{ended_by}
use Rattle.card_commands.specs.Feed.{Run, Progress, after_item, feed_all, text_all, rows_all, end_text, end_rows, end_refused, end_ledger}
use Rattle.card_commands.specs.Outside.{Outside, HasCause, sides_of}
use Rattle.card_commands.specs.Written.{Sides, TookBetween, Did, SameCounts, Failed, FellIn}
use Rattle.card_commands.specs.declared.stop.Stop.{Stop}
use Rattle.card_commands.specs.declared.stop.Stop.TheVariants as stop
use Rattle.card_text.specs.declared.item.Item.{Item}
use Rattle.card_ports.specs.Rows.{AddsRows}
use Rattle.card_model.specs.Machine.{State}

-- an item was handled: its text was written, and its rows were kept
pub record Handled (old new : Sides) (r : Run) (x : Item) (next : Run) : Type 0 where
  pub run : next ≡ after_item r x
  pub did : Did old new (answer_text r.ledger x) (item_rows r.ledger x)
  pub counts : SameCounts old new
  pub fits : Fits new.keeper.rows next.ledger

-- an item ended the run
abbrev pub FellOn : Sides → Sides → Run → Item → Stop → Type 0
FellOn old new r x e = FellIn old new (answer_text r.ledger x) (item_rows r.ledger x) e

-- bytes were handled: what is written for them was, and their rows were kept
pub record Fed (old new : Sides) (p : Progress) (bytes : List ℕ) (q : Progress) : Type 0 where
  pub progress : q ≡ feed_all p bytes
  pub number : q.number ≤ p.number + length bytes
  pub did : Did old new (text_all p bytes) (rows_all p bytes)
  pub counts : SameCounts old new
  pub fits : Fits new.keeper.rows q.ledger

-- the last line was handled, the run had a refusal or none, and this is its ledger
pub record Finished (old new : Sides) (p : Progress) (ledger : State) (refused : Bool) : Type 0 where
  pub refused_is : refused ≡ end_refused p
  pub ledger_is : ledger ≡ end_ledger p
  pub did : Did old new (end_text p) (end_rows p)
  pub counts : SameCounts old new

-- the first of these bytes were handled, so many, and what is written for them was
pub record HeldAt (old new : Sides) (p : Progress) (bytes : List ℕ) : Type 0 where
  pub count : ℕ
  pub within : count ≤ length bytes
  pub did : Did old new (text_all p (take count bytes)) (rows_all p (take count bytes))

-- the same, but that of what is written for the last of them a front was
pub record StoppedAt (old new : Sides) (p : Progress) (bytes : List ℕ) : Type 0 where
  pub count : ℕ
  pub within : count ≤ length bytes
  pub took : TookBetween old.sink.taken new.sink.taken (text_all p (take (count - 1) bytes)) (text_all p (take count bytes))
  pub kept : AddsRows old.keeper.rows new.keeper.rows (rows_all p (take count bytes))

-- what was done of bytes that were read when the run ended
abbrev pub DidAt : Sides → Sides → Progress → List ℕ → Stop → Type 0
DidAt old new p bytes stop.Source = Did old new (text_all p bytes) (rows_all p bytes)
DidAt old new p bytes stop.Keeper = HeldAt old new p bytes
DidAt old new p bytes stop.Sink = StoppedAt old new p bytes
DidAt old new p bytes stop.Memory = StoppedAt old new p bytes
DidAt old new p bytes stop.Endless = ⊥

-- one of these bytes ended the run
pub record FellAt (old new : Sides) (p : Progress) (bytes : List ℕ) (e : Stop) : Type 0 where
  pub did : DidAt old new p bytes e
  pub cause : Failed old new e

-- ---- with the source

-- so many bytes were read and handled
pub record Ran {I K : Type 0} (old new : Outside I K) (p q : Progress) (count : ℕ) : Type 0 where
  pub bytes : List ℕ
  pub length_is : length bytes ≡ count
  pub read : Consumes old.left new.left bytes
  pub source_count : new.source_faults ≡ old.source_faults
  pub fed : Fed (sides_of old) (sides_of new) p bytes q

-- bytes were read, and then the run ended
pub record FellReading {I K : Type 0} (old new : Outside I K) (p : Progress) (e : Stop) : Type 0 where
  pub bytes : List ℕ
  pub read : Consumes old.left new.left bytes
  pub did : DidAt (sides_of old) (sides_of new) p bytes e
  pub cause : HasCause old new (ended_by e)
