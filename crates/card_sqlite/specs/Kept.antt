-- The table `kept`, and the rows that a database keeps in it.
use Rattle.std.specs.Prelude.{◌≡◌, ◌⊎◌, ℕ, pos, negsuc, true, false, List, [], ◌∷◌, ◌++◌, map, codes, Some, All, IsPermutation, IsSorted, IsTrue}
use Rattle.std.specs.declared.cmp.Ordering.{Ordering}
use Rattle.sqlite_value.specs.declared.value.Value.{Value}
use Rattle.sqlite_value.specs.declared.value.Value.TheVariants.{Null, Int, Real, Text, Blob}
use Rattle.sqlite_value.specs.declared.keys.Collation.TheVariants.{Binary}
use Rattle.sqlite_value.specs.Order.{Row as Record, column, value_cmp}
use Rattle.sqlite_trees.specs.Tree.{Trees, put_row}
use Rattle.sqlite_rules.specs.Edit.{is_taken}
use Rattle.sqlite_schema.specs.declared.schema.Column.{Column}
use Rattle.sqlite_schema.specs.declared.schema.Table.{Table}
use Rattle.sqlite_schema.specs.declared.schema.Schema.{Schema}
use Rattle.sqlite_schema.specs.declared.schema.Kind.TheVariants as kind
use Rattle.sqlite.specs.Effect.{Database}
use Rattle.sqlite.specs.Values.{IsInt}
use Rattle.sqlite.specs.State.{HasCleanDisk, State}
use Rattle.card_ports.specs.declared.row.Row.{Row}
use Rattle.card_ports.specs.Rows.{next_seq, are_from}

abbrev pub seq_column : Column
seq_column = record { name = codes "seq"; kind = kind.Integer; is_strict = true; not_null = false; default = Null; collation = Binary }

abbrev pub body_column : Column
body_column = record { name = codes "body"; kind = kind.Blob; is_strict = true; not_null = true; default = Null; collation = Binary }

-- kept(seq INTEGER PRIMARY KEY, body BLOB NOT NULL) STRICT
abbrev pub kept : Table
kept = record {
  name = codes "kept";
  tree = 0;
  columns = seq_column ∷ body_column ∷ [];
  key = Some 0;
  primary = 0 ∷ [];
  uniques = [];
  orders = [];
  checks = [];
  references = [];
  computed = [];
  stamps = record { places = []; terms = []; formats = [] };
  is_counted = false;
}

-- neither a UNIQUE, a CHECK, a REFERENCES, a computed default nor AUTOINCREMENT
pub record HasNoRules (t : Table) : Type 0 where
  pub uniques : t.uniques ≡ []
  pub orders : t.orders ≡ []
  pub checks : t.checks ≡ []
  pub references : t.references ≡ []
  pub computed : t.computed ≡ []
  pub stamps : t.stamps ≡ record { places = []; terms = []; formats = [] }
  pub uncounted : t.is_counted ≡ false

abbrev pub no_schema : Schema
no_schema = record { tables = []; indexes = []; views = [] }

abbrev pub kept_schema : Schema
kept_schema = record { tables = kept ∷ []; indexes = []; views = [] }

-- the three statements
abbrev pub create_text : List ℕ
create_text = codes "CREATE TABLE IF NOT EXISTS kept (seq INTEGER PRIMARY KEY, body BLOB NOT NULL) STRICT"

abbrev pub select_text : List ℕ
select_text = codes "SELECT seq, body FROM kept ORDER BY seq"

abbrev pub insert_text : List ℕ
insert_text = codes "INSERT INTO kept (seq, body) VALUES (?1, ?2)"

-- a record of the table as it is stored, and what `SELECT seq, body` shows of one
abbrev pub stored : Row → Record
stored row = Int (pos row.seq) ∷ Null ∷ Blob row.body ∷ []

abbrev pub shown : Record → Record
shown r = column r 0 ∷ column r 2 ∷ []

-- a seq below 0 reads as 0
abbrev pub seq_in : Value → ℕ
seq_in Null = 0
seq_in (Int (pos n)) = n
seq_in (Int (negsuc n)) = 0
seq_in (Real x) = 0
seq_in (Text t) = 0
seq_in (Blob b) = 0

abbrev pub bytes_in : Value → List ℕ
bytes_in Null = []
bytes_in (Int n) = []
bytes_in (Real x) = []
bytes_in (Text t) = []
bytes_in (Blob b) = b

-- the row of what is shown
abbrev pub row_in : Record → Row
row_in r = record { seq = seq_in (column r 0); body = bytes_in (column r 1) }

abbrev pub by_seq : Record → Record → Ordering
by_seq a b = value_cmp (column a 0) (column b 0)

-- what is shown of the table's records, in order of seq
pub record AreShown (trees : Trees) (records : List Record) : Type 0 where
  pub same : IsPermutation (map shown (trees 0)) records
  pub sorted : IsSorted by_seq records

-- the rows are those of the table's records, in order of seq
pub record AreKept (trees : Trees) (rows : List Row) : Type 0 where
  pub ordered : List Record
  pub shown_are : AreShown trees ordered
  pub numbered : All (λ r. IsInt (column r 0)) ordered
  pub read : rows ≡ map row_in ordered

-- the database has no table, or `kept` alone
abbrev pub IsFor : Schema → Type 0
IsFor schema = (schema ≡ no_schema) ⊎ (schema ≡ kept_schema)

-- the rows that a database keeps: none where it has no table
abbrev pub Keeps : Database → List Row → Type 0
Keeps db rows = ((db.schema ≡ no_schema) × (rows ≡ [])) ⊎ ((db.schema ≡ kept_schema) × AreKept db.trees rows)

-- the table is there, and new if it was missing
abbrev pub Creates : Database → Database → Type 0
Creates old new = ((old.schema ≡ no_schema) × (new.schema ≡ kept_schema) × (new.trees 0 ≡ [])) ⊎ ((old.schema ≡ kept_schema) × (new ≡ old))

-- one record is put into the tree, where none had its seq
pub record IsAdded (old : Trees) (row : Row) (new : Trees) : Type 0 where
  pub put : new 0 ≡ put_row (stored row) (old 0)
  pub free : is_taken (old 0) (stored row) ≡ false

-- the new rows stand behind the old ones, where their numbers go on from the last
abbrev pub Grows : Trees → List Row → Trees → Type 0
Grows old more new = (rows : List Row) → AreKept old rows → are_from (next_seq rows) more ≡ true → AreKept new (rows ++ more)

-- the table stays, and its rows grow so
abbrev pub GrowsTable : List Row → Database → Database → Type 0
GrowsTable more old new = (new.schema ≡ kept_schema) × Grows old.trees more new.trees

-- no transaction is under way
abbrev pub IsSettled : State → Type 0
IsSettled s = (s.in_transaction ≡ false) × (IsTrue s.is_open → s.now ≡ s.committed)

-- what is seen stays, where the connection is still open
abbrev pub Stays : State → State → Type 0
Stays old new = IsTrue new.is_open → new.now ≡ old.now

-- so do the rows that are kept, though the table may be new
abbrev pub StaysKept : State → State → Type 0
StaysKept old new = IsTrue new.is_open → IsFor new.now.schema × ((rows : List Row) → Keeps old.now rows → Keeps new.now rows)

-- P is so where a transaction was under way, and the disk gives back what was written
abbrev pub InTransaction : State → State → (State → State → Type 0) → Type 0
InTransaction old new P = HasCleanDisk new → IsTrue old.in_transaction → P old new

-- in a transaction, one row is added, and then some in turn
abbrev pub AddsRow : Row → State → State → Type 0
AddsRow row old new = (new.now.schema ≡ kept_schema) × IsAdded old.now.trees row new.now.trees × IsTrue new.in_transaction

abbrev pub AddsAll : List Row → State → State → Type 0
AddsAll rows old new = (new.now.schema ≡ kept_schema) × Grows old.now.trees rows new.now.trees × IsTrue new.in_transaction

-- the rows that the one keeps the other keeps too
abbrev pub KeepsAll : Database → Database → Type 0
KeepsAll old new = (rows : List Row) → Keeps old rows → Keeps new rows

-- the other keeps the new rows behind them, where their numbers go on from the last
abbrev pub Extends : Database → List Row → Database → Type 0
Extends old more new = (rows : List Row) → Keeps old rows → are_from (next_seq rows) more ≡ true → Keeps new (rows ++ more)
