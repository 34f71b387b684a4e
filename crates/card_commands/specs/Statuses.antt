-- The statuses of ends.
use Rattle.std.specs.Prelude.{◌⊎◌, ◌≡◌, ℕ, List, [], ◌∷◌, Option, Some, None, Result, Ok, Err, Bool, true, false}
use Rattle.card_ports.specs.declared.source.SinkFault.{SinkFault}
use Rattle.card_ports.specs.declared.source.SinkFault.TheVariants as fault
use Rattle.card_words.specs.declared.command.Command.{Command}
use Rattle.card_words.specs.declared.command.Command.TheVariants as command
use Rattle.card_commands.specs.declared.stop.Stop.{Stop}
use Rattle.card_commands.specs.declared.stop.Stop.TheVariants as stop
use Rattle.card_commands.specs.declared.ended.Ended.{Ended}
use Rattle.card_commands.specs.declared.ended.Ended.TheVariants as ended

-- the exit status of each end
abbrev pub status_of : Ended → ℕ
status_of ended.Done = 0
status_of ended.Refused = 1
status_of ended.Usage = 2
status_of ended.Source = 3
status_of ended.Sink = 4
status_of ended.Keeper = 5
status_of ended.Memory = 6
status_of ended.Door = 7
status_of ended.Damaged = 8
status_of ended.Endless = 9

-- the statuses that a run over an input may end with
abbrev pub run_statuses : List ℕ
run_statuses = 0 ∷ 1 ∷ 3 ∷ 4 ∷ 5 ∷ 6 ∷ 8 ∷ 9 ∷ []

-- the statuses that a text of an account may end with, which may not be there, nor its statement
abbrev pub account_statuses : List ℕ
account_statuses = 0 ∷ 1 ∷ 4 ∷ 5 ∷ 6 ∷ 8 ∷ []

-- the statuses that a command, or none, may end with
abbrev pub statuses_of : Option Command → List ℕ
statuses_of None = 2 ∷ 6 ∷ []
statuses_of (Some command.Apply) = run_statuses
statuses_of (Some command.Import) = run_statuses
statuses_of (Some (command.Export name)) = account_statuses
statuses_of (Some (command.Statement name cycle)) = account_statuses
statuses_of (Some (command.Restate name cycle)) = account_statuses
statuses_of (Some (command.Repay name cycle)) = account_statuses
statuses_of (Some command.Work) = 0 ∷ 4 ∷ 5 ∷ 6 ∷ 8 ∷ []
statuses_of (Some (command.Serve port count)) = 0 ∷ 4 ∷ 5 ∷ 6 ∷ 7 ∷ 8 ∷ []
statuses_of (Some (command.Demo d)) = 0 ∷ 4 ∷ 6 ∷ []
statuses_of (Some (command.Trial from to)) = run_statuses

-- one of these
abbrev pub IsOneOf : ℕ → List ℕ → Type 0
IsOneOf n [] = ⊥
IsOneOf n (m ∷ ms) = (n ≡ m) ⊎ IsOneOf n ms

-- the end of a run that was ended early
abbrev pub ended_by : Stop → Ended
ended_by stop.Source = ended.Source
ended_by stop.Sink = ended.Sink
ended_by stop.Keeper = ended.Keeper
ended_by stop.Memory = ended.Memory
ended_by stop.Endless = ended.Endless

-- the end of a call that a sink's fault ended
abbrev pub ended_by_sink : SinkFault → Ended
ended_by_sink fault.Failed = ended.Sink
ended_by_sink fault.Memory = ended.Memory

-- the end of a run, where Ok says whether a line was refused
abbrev pub ended_of : Result Bool Stop → Ended
ended_of (Ok false) = ended.Done
ended_of (Ok true) = ended.Refused
ended_of (Err e) = ended_by e
