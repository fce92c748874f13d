-- The table of SQL, and the rows that it stands for.
use Rattle.std.specs.Fmt.{decimal}
use Rattle.std.specs.Prelude.{◌++◌, ◌≡◌, true, false, Bool, [], ◌∷◌, Some, None, Option, codes, List, ℕ, ℤ, pos, IsTrue, unwrap_or}
use Rattle.sqlite.specs.declared.types.Value.{Value}
use Rattle.sqlite.specs.declared.types.Value.TheVariants.{Null, Int}
use Rattle.sqlite.specs.Collation.TheVariants.{Binary}
use Rattle.sqlite_value.specs.Order.{Row as SqlRow, column, bytes}
use Rattle.sqlite_value.specs.Keys.{plain}
use Rattle.sqlite_rules.specs.Lists.{Has}
use Rattle.sqlite_trees.specs.Tree.{rowid, IsTable}
use Rattle.sqlite.specs.Edit.{id_in}
use Rattle.sqlite.specs.Table.{Table}
use Rattle.sqlite.specs.Schema.{Schema}
use Rattle.sqlite.specs.State.{State}
use Rattle.sqlite.specs.Kind.TheVariants.{Integer, Blob}
use Rattle.sqlite_schema.specs.declared.schema.Index.{Index}
use Rattle.hib_base.specs.Tables.{Tables, with_row}
use Rattle.hib_sqlite_rows.specs.Types.{Key, Row, Cell}
use Rattle.hib_sqlite_rows.specs.Body.{unpacked}
use Rattle.hib_sqlite_rows.specs.Shown.{shown, IsInRange}
use Rattle.hib_sqlite_rows.specs.Told.{Told}

abbrev pub kept : Table
kept = record {
  name = codes "hib_rows";
  tree = 0;
  columns = (record { name = codes "entity"; kind = Integer; is_strict = true; not_null = true; default = Null; collation = Binary })
      ∷ (record { name = codes "id"; kind = Integer; is_strict = true; not_null = true; default = Null; collation = Binary })
      ∷ (record { name = codes "version"; kind = Integer; is_strict = true; not_null = false; default = Null; collation = Binary })
      ∷ (record { name = codes "body"; kind = Blob; is_strict = true; not_null = true; default = Null; collation = Binary }) ∷ [];
  key = None;
  primary = 1 ∷ 2 ∷ [];
  uniques = (1 ∷ 2 ∷ []) ∷ [];
  orders = plain ∷ [];
  checks = [];
  references = [];
  computed = [];
  stamps = record { places = []; terms = []; formats = [] };
  is_counted = false;
}

abbrev pub kept_index : Index
kept_index = record { name = codes "sqlite_autoindex_" ++ (codes "hib_rows" ++ (codes "_" ++ decimal 1)); tree = 1; table = 0; columns = 1 ∷ 2 ∷ []; order = plain; is_unique = true }

abbrev pub kept_schema : Schema
kept_schema = record { tables = kept ∷ []; indexes = kept_index ∷ []; views = [] }

abbrev pub no_schema : Schema
no_schema = record { tables = []; indexes = []; views = [] }

-- a row as it is stored: its rowid, and then its columns
abbrev pub stored : ℤ → Key → Row → SqlRow
stored n k r = Int n ∷ Int (pos k.entity) ∷ Int (pos k.id) ∷ shown r

abbrev pub number_in : Value → ℕ
number_in (Int (pos n)) = n
number_in _ = 0

abbrev pub version_in : Value → Option ℕ
version_in (Int (pos n)) = Some n
version_in _ = None

abbrev pub cells_in : List ℕ → List Cell
cells_in body = unwrap_or (unpacked body) []

-- the key and the row that a row of SQL has
abbrev pub key_in : SqlRow → Key
key_in row = record { entity = number_in (column row 1); id = number_in (column row 2) }

abbrev pub row_in : SqlRow → Row
row_in row = record { version = version_in (column row 3); cells = cells_in (bytes (column row 4)) }

abbrev pub entry_in : SqlRow → Key × Row
entry_in row = (key_in row, row_in row)

-- the rows of SQL as tables
abbrev pub tables_of : List SqlRow → Tables
tables_of [] = []
tables_of (r ∷ rs) = with_row (tables_of rs) (key_in r) (row_in r)

-- a row of SQL stands for a row that SQL can keep, and has nothing else
pub record IsKept (row : SqlRow) : Type 0 where
  pub shape : row ≡ stored (id_in (rowid row)) (key_in row) (row_in row)
  pub range : IsInRange (key_in row) (row_in row)

-- each of the rows does, their rowids rise, and no key stands twice
pub record AreKept (rows : List SqlRow) : Type 0 where
  pub all : (r : SqlRow) → Has rows r → IsKept r
  pub keys : (r s : SqlRow) → Has rows r → Has rows s → key_in r ≡ key_in s → r ≡ s
  pub table : IsTable rows

-- what a connection in memory holds of the table: its rows, those that a rollback goes back to, and whether a transaction is open
pub record Held : Type 0 where
  pub now : List SqlRow
  pub before : List SqlRow
  pub in_transaction : Bool

abbrev pub held_by : State → Held
held_by s = record { now = s.now.trees 0; before = s.committed.trees 0; in_transaction = s.in_transaction }

abbrev pub told_of : Held → Told
told_of h = record { now = tables_of h.now; before = tables_of h.before; in_transaction = h.in_transaction }

-- what is true of a connection that keeps rows
pub record KeepsRows (s : State) : Type 0 where
  pub schema : s.now.schema ≡ kept_schema
  pub schema_before : s.committed.schema ≡ kept_schema
  pub rows : AreKept (s.now.trees 0)
  pub rows_before : AreKept (s.committed.trees 0)
  pub is_open : IsTrue s.is_open
  pub settled : s.in_transaction ≡ false → s.now ≡ s.committed
