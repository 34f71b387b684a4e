-- Calls that nothing outside gets in the way of.
use Rattle.std.specs.Prelude.{◌≡◌, ℕ, ◌<◌, List, length, Some}
use Rattle.card_desk.specs.Kept.{AreSound}
use Rattle.card_events.specs.declared.request.Request.{Request}
use Rattle.card_ports.specs.declared.row.Row.{Row}
use Rattle.card_ports.specs.Counts.{Rose}
use Rattle.card_commands.specs.Input.{lines, records}
use Rattle.card_commands.specs.Outside.{Outside}
use Rattle.card_words.specs.declared.command.Command.{Command}
use Rattle.card_words.specs.declared.command.Command.TheVariants as command

-- nothing failed
pub record NothingFailed {I K : Type 0} (old new : Outside I K) : Type 0 where
  pub source : Rose old.source_faults new.source_faults → ⊥
  pub sink : Rose old.sink_faults new.sink_faults → ⊥
  pub keeper : Rose old.keeper_faults new.keeper_faults → ⊥

-- the rows are told, and they are those of requests, each newly accepted in its place
pub record HasSoundRows {I K : Type 0} (old : Outside I K) : Type 0 where
  pub rows : List Row
  pub told : old.rows ≡ Some rows
  pub requests : List Request
  pub sound : AreSound rows requests

-- the bytes left are told, and they are fewer
pub record HasFewerLeft {I K : Type 0} (old : Outside I K) (limit : ℕ) : Type 0 where
  pub bytes : List ℕ
  pub told : old.left ≡ Some bytes
  pub few : length bytes < limit

-- what each command wants of the outside
unfoldable pub IsQuiet : {I K : Type 0} → Outside I K → Outside I K → Command → Type 0
IsQuiet old new command.Apply = NothingFailed old new × HasSoundRows old × HasFewerLeft old lines.limit
IsQuiet old new command.Import = NothingFailed old new × HasSoundRows old × HasFewerLeft old records.limit
IsQuiet old new (command.Export name) = NothingFailed old new × HasSoundRows old
IsQuiet old new command.Work = NothingFailed old new × HasSoundRows old
IsQuiet old new (command.Statement name cycle) = NothingFailed old new × HasSoundRows old
IsQuiet old new (command.Restate name cycle) = NothingFailed old new × HasSoundRows old
IsQuiet old new (command.Repay name cycle) = NothingFailed old new × HasSoundRows old
IsQuiet old new (command.Demo d) = NothingFailed old new
IsQuiet old new (command.Serve port count) = NothingFailed old new × HasSoundRows old
IsQuiet old new (command.Trial from to) = NothingFailed old new × HasSoundRows old × HasFewerLeft old lines.limit
