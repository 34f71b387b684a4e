-- How the program keeps rows in a file, and the exit status of a whole run.
use Rattle.std.specs.Prelude.{ℕ, nat_le, ◌==◌, ◌||◌, ◌&&◌, not, Bool, Option, Some, None, Result, Ok, Err, if◌then◌else◌}
use Rattle.card_ports.specs.declared.keeper.KeeperFault.{KeeperFault}
use Rattle.card_ports.specs.declared.keeper.KeeperFault.TheVariants as fault
use Rattle.card_words.specs.declared.command.Command.{Command}
use Rattle.card_words.specs.declared.command.Command.TheVariants as command
use Rattle.card_commands.specs.declared.exit.Keeping.{Keeping}
use Rattle.card_commands.specs.declared.exit.Keeping.TheVariants as keeping
use Rattle.card_commands.specs.declared.ended.Ended.TheVariants as ended
use Rattle.card_commands.specs.Statuses.{status_of}

-- how the rows of a command are kept; words that are none keep no row
abbrev pub keeping_of : Option Command → Keeping
keeping_of None = keeping.Reading
keeping_of (Some command.Apply) = keeping.Waiting
keeping_of (Some command.Import) = keeping.Waiting
keeping_of (Some (command.Trial from to)) = keeping.Waiting
keeping_of (Some (command.Serve port count)) = keeping.AtOnce
keeping_of (Some (command.Export name)) = keeping.Reading
keeping_of (Some command.Work) = keeping.Reading
keeping_of (Some (command.Statement name cycle)) = keeping.Reading
keeping_of (Some (command.Restate name cycle)) = keeping.Reading
keeping_of (Some (command.Repay name cycle)) = keeping.Reading
keeping_of (Some (command.Demo d)) = keeping.Reading

-- a status that says that each reply stands
abbrev pub says_all_stand : ℕ → Bool
says_all_stand status =
    nat_le status (status_of ended.Refused) || (status == status_of ended.Source) || (status == status_of ended.Endless)

-- that of a call whose last replies were written or not
abbrev pub with_replies : Bool → ℕ → ℕ
with_replies written status = if not written && says_all_stand status then status_of ended.Sink else status

-- the exit status: of the call, whether its last replies were written, and whether the rows were kept that waited
abbrev pub exit_status : ℕ → Bool → Result (Unit {0}) KeeperFault → ℕ
exit_status status written (Ok u) = with_replies written status
exit_status status written (Err fault.Failed) = status_of ended.Keeper
exit_status status written (Err fault.Memory) = status_of ended.Memory
