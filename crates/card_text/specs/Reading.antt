-- What a reader of records has left.
use Rattle.std.specs.Prelude.{◌≡◌, ℕ, ◌+◌, false, true, List, [], length, Option, Some, None, IsSome}
use Rattle.std.specs.Borrow.{Bor}
use Rattle.std.specs.Global.{Box}
use Rattle.csv.specs.Machine.{ends_at_end}
use Rattle.csv.specs.Reading.{default_config, is_flexible, reader_config, reader_state, reader_trim, records_from, source_of, Ready}
use Rattle.csv.specs.declared.parser.State.{State}
use Rattle.csv.specs.declared.reader.Reader.{Reader}
use Rattle.csv.specs.declared.reader.Trim.TheVariants as trim

-- a reader over bytes in memory
abbrev pub BytesReader : Type 0
BytesReader = Reader (Bor (List ℕ))

-- the bytes that it has left
abbrev pub bytes_left : BytesReader → Option (List ℕ)
bytes_left r = source_of (λ s. Some s.now) r

-- the records of bytes from a state
abbrev pub records_in : State → Option (List ℕ) → List (List (List ℕ))
records_in s None = []
records_in s (Some bs) = records_from default_config (length bs + 1) s bs

abbrev pub records_left : BytesReader → List (List (List ℕ))
records_left r = records_in (reader_state r) (bytes_left r)

abbrev pub records_of : Option (Box BytesReader) → List (List (List ℕ))
records_of None = []
records_of (Some r) = records_left r.value

-- it stands between two records, and reads records of any length by the defaults
pub record IsReading (r : BytesReader) : Type 0 where
  pub config : reader_config r ≡ default_config
  pub trim : reader_trim r ≡ trim.None
  pub flexible : is_flexible r ≡ true
  pub ready : Ready r
  pub told : IsSome (bytes_left r)
  pub between : ends_at_end (reader_state r) ≡ false
