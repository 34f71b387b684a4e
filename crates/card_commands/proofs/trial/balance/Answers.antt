use Rattle.std.proofs.Common.{[], refl}
use Rattle.std.proofs.KnownBytes.{Appends-nil}
use Rattle.card_commands.proofs.SideLemmas.{front_none}
use Rattle.card_commands.proofs.trial.balance.Goals as goal

pub returns-in-Err-clause-err : goal.returns-in-Err-clause-err
returns-in-Err-clause-err g c = record { took = record { bytes = []; taken = Appends-nil _; front = front_none _ }; cause = refl }
