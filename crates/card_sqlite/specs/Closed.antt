-- Rows over a close and the next open.
use Rattle.std.specs.Prelude.{List}
use Rattle.sqlite_disk.specs.declared.Disk.{Ghosts}
use Rattle.sqlite_disk.specs.declared.Files.{Files}
use Rattle.sqlite_wal.specs.Reads.{AreClean}
use Rattle.sqlite_store.specs.declared.store.FileStore.{FileStore}
use Rattle.sqlite.specs.State.{IsLive}
use Rattle.sqlite.specs.Held.{Held}
use Rattle.sqlite.specs.Files.{file_state, Finds, IsOpened}
use Rattle.sqlite.specs.Closing.{IsCopied}
use Rattle.card_ports.specs.declared.row.Row.{Row}
use Rattle.card_sqlite.specs.Kept.{AreKept, Keeps}

-- What files that a close left hold, and what a connection finds in them
pub record RowsSurviveClose {D : Type 0} (g : Ghosts D) : Type 0 where
  -- a connection that finds what they hold keeps the rows of the last commit, and no others
  pub rows :
      (old new : Held (FileStore D g)) (files : Files D) (rows : List Row) → (AreClean g files.log files.db → IsCopied old files) → Finds files new
      → (AreKept (file_state old).committed.trees rows → AreKept (file_state new).committed.trees rows) × (AreKept (file_state new).committed.trees rows → AreKept (file_state old).committed.trees rows)
  -- and one that is opened keeps them in the ledger's table. That a connection is live each one says of itself
  pub table :
      (old new : Held (FileStore D g)) (files : Files D) (rows : List Row) → IsLive (file_state old) → (AreClean g files.log files.db → IsCopied old files) → Finds files new → IsOpened new
      → (Keeps (file_state old).committed rows → Keeps (file_state new).committed rows) × (Keeps (file_state new).committed rows → Keeps (file_state old).committed rows)
