-- The entities of a made script.
use Rattle.std.specs.Prelude.{ℕ, Bool, true, false, List, [], ◌∷◌, None, codes}
use Rattle.hib_base.specs.declared.scripts.Strategy.{Strategy}
use Rattle.hib_base.specs.declared.scripts.ColumnType.{ColumnType}
use Rattle.hib_base.specs.declared.scripts.ColumnDef.{ColumnDef}
use Rattle.hib_base.specs.declared.scripts.EntityDef.{EntityDef}

abbrev pub author : ℕ
author = 0

abbrev pub book : ℕ
book = 1

abbrev pub customer : ℕ
customer = 2

abbrev pub order : ℕ
order = 3

abbrev pub shelf : ℕ
shelf = 4

abbrev pub column : List ℕ → ColumnType → ColumnDef
column name kind = record { name = name; kind = kind; default = None }

abbrev pub entity : List ℕ → Strategy → Bool → ℕ → List ColumnDef → EntityDef
entity name strategy versioned capacity columns =
    record { name = name; strategy = strategy; versioned = versioned; capacity = capacity; columns = columns }

abbrev pub author_entity : EntityDef
author_entity = entity (codes "Author") Strategy.ReadOnly false 50 (column (codes "name") ColumnType.Text ∷ [])

abbrev pub book_entity : EntityDef
book_entity =
    entity (codes "Book") Strategy.ReadWrite true 40
    (column (codes "title") ColumnType.Text ∷ column (codes "author") (ColumnType.Ref author) ∷ column (codes "stock") ColumnType.Int ∷
    column (codes "price") ColumnType.Int ∷ [])

abbrev pub customer_entity : EntityDef
customer_entity =
    entity (codes "Customer") Strategy.ReadWrite true 50 (column (codes "name") ColumnType.Text ∷ column (codes "credit") ColumnType.Int ∷ [])

abbrev pub order_entity : EntityDef
order_entity =
    entity (codes "Order") Strategy.Nonstrict false 50
    (column (codes "customer") (ColumnType.Ref customer) ∷ column (codes "book") (ColumnType.Ref book) ∷ column (codes "amount") ColumnType.Int ∷ [])

abbrev pub shelf_entity : EntityDef
shelf_entity =
    entity (codes "Shelf") Strategy.ReadWrite false 10 (column (codes "label") ColumnType.Text ∷ column (codes "full") ColumnType.Bool ∷ [])

abbrev pub note_entity : EntityDef
note_entity = entity (codes "Note") Strategy.Uncached false 0 (column (codes "note") ColumnType.Text ∷ [])

abbrev pub made_mapping : List EntityDef
made_mapping = author_entity ∷ book_entity ∷ customer_entity ∷ order_entity ∷ shelf_entity ∷ note_entity ∷ []
