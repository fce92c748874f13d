-- What a keeper's tables are after a call, and what it lists.
use Rattle.std.specs.Prelude.{ℕ, ⊤, Bool, if◌then◌else◌, nat_eq, List, [], ◌∷◌, Result, Ok, Err, Option}
use Rattle.std.specs.List.{list_any}
use Rattle.std.specs.Option.{option_map}
use Rattle.hib_outside.specs.Types.{Change}
use Rattle.hib_base.specs.Start.{start}
use Rattle.hib_base.specs.Tables.{Tables}
use Rattle.hib_base.specs.declared.scripts.EntityDef.{EntityDef}
use Rattle.hib_outside.specs.Verdicts.{after_applied}
use Rattle.hib_outside.specs.declared.keeper.Applied.{Applied}
use Rattle.hib_outside.specs.declared.keeper.KeepFault.{KeepFault}

-- after they became the start of a mapping and of rows
abbrev pub tables_seeded : Result ⊤ KeepFault → List EntityDef → Tables → Option Tables → Option Tables
tables_seeded (Ok a) mapping rows told = option_map (λ m. start mapping m rows) told
tables_seeded (Err e) mapping rows told = told

-- after a batch of changes
abbrev pub tables_after : Result Applied KeepFault → List Change → Option Tables → Option Tables
tables_after (Ok a) batch told = option_map (after_applied a batch) told
tables_after (Err e) batch told = told

abbrev pub is_listed : ℕ → List ℕ → Bool
is_listed entity entities = list_any (λ e. nat_eq e entity) entities

-- the rows of these entities, in order of keys
abbrev pub rows_of : List ℕ → Tables → Tables
rows_of entities [] = []
rows_of entities (e ∷ es) = if is_listed e.0.entity entities then e ∷ rows_of entities es else rows_of entities es
