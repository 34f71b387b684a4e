use Rattle.std.proofs.Common.{[], refl}
use Rattle.std.proofs.KnownBytes.{Appends-nil}
use Rattle.card_commands.proofs.SideLemmas.{front_none}
use Rattle.card_commands.proofs.demo.demo.Goals as goal

pub returns-in-Err : goal.returns-in-Err
returns-in-Err g c = record { ends = record { bytes = []; taken = Appends-nil _; front = front_none _ }; cause = refl }
