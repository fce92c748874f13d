-- Rows of a table that get the columns that they lack, one after another.
use Rattle.std.specs.Prelude.{ℕ, Bool, if◌then◌else◌, nat_lt, is_some, List, [], ◌∷◌, map}
use Rattle.std.specs.List.{list_all}
use Rattle.hib_base.specs.declared.scripts.ColumnDef.{ColumnDef}
use Rattle.hib_base.specs.declared.scripts.EntityDef.{EntityDef}
use Rattle.hib_base.specs.Start.{is_narrow, widened_row, widened_entry}
use Rattle.hib_base.specs.Tables.{Tables, row_at, with_row}
use Rattle.hib_outside.specs.Keeps.{is_listed}
use Rattle.hib_keeper_sqlite.specs.Types.{Key, Row}

-- a row that lacks columns is put in its own place with their defaults
abbrev pub with_wide : List ColumnDef → Tables → Key × Row → Tables
with_wide ds t e = if is_narrow ds e.1.cells then with_row t e.0 (widened_row ds e.1) else t

-- and so is each of some rows
abbrev pub with_all_wide : List ColumnDef → Tables → Tables → Tables
with_all_wide ds t [] = t
with_all_wide ds t (e ∷ es) = with_all_wide ds (with_wide ds t e) es

-- the rows of one entity are widened
abbrev pub wide_entry : ℕ → List ColumnDef → Key × Row → Key × Row
wide_entry n ds e = if is_listed e.0.entity (n ∷ []) then (e.0, widened_row ds e.1) else e

abbrev pub widened_one : ℕ → List ColumnDef → Tables → Tables
widened_one n ds t = map (λ e. wide_entry n ds e) t

-- the rows of the first n entities are
abbrev pub entry_below : ℕ → List EntityDef → Key × Row → Key × Row
entry_below n mapping e = if nat_lt e.0.entity n then widened_entry mapping e else e

abbrev pub widened_below : ℕ → List EntityDef → Tables → Tables
widened_below n mapping t = map (λ e. entry_below n mapping e) t

-- at the key of each of some rows there is a row
abbrev pub are_there : Tables → Tables → Bool
are_there es t = list_all (λ e. is_some (row_at t e.0)) es
