-- What a keeper makes of an error of `sqlite`.
use Rattle.sqlite.specs.declared.error.ErrorCode.TheVariants.{OutOfMemory}
use Rattle.sqlite.specs.declared.error.Error.{Error}
use Rattle.sqlite.specs.declared.error.Error.TheVariants.{SqliteFailure}
use Rattle.card_ports.specs.declared.keeper.KeeperFault.{KeeperFault}
use Rattle.card_ports.specs.declared.keeper.KeeperFault.TheVariants.{Failed, Memory}

-- only want of memory is Memory
abbrev pub fault_of : Error → KeeperFault
fault_of (SqliteFailure OutOfMemory) = Memory
fault_of _ = Failed
