-- The names of the columns of all entities, each once.
use Rattle.std.specs.Prelude.{ℕ, if◌then◌else◌, List, [], ◌∷◌, ◌++◌}
use Rattle.hib_base.specs.Words.{has_name}
use Rattle.hib_journal.specs.Types.{ColumnDef, EntityDef, Script}

-- a name that is not among them comes last
abbrev pub with_name : List (List ℕ) → List ℕ → List (List ℕ)
with_name names w = if has_name names w then names else names ++ w ∷ []

abbrev pub with_columns : List (List ℕ) → List ColumnDef → List (List ℕ)
with_columns names [] = names
with_columns names (d ∷ ds) = with_columns (with_name names d.name) ds

abbrev pub with_entities : List (List ℕ) → List EntityDef → List (List ℕ)
with_entities names [] = names
with_entities names (e ∷ es) = with_entities (with_columns names e.columns) es

-- in the order in which they come first
abbrev pub columns : Script → List (List ℕ)
columns script = with_entities [] script.mapping
