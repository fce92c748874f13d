-- How rows are told, and told apart, and the table that a key is of.
use Rattle.std.specs.Prelude.{ℕ, List, ◌++◌, ◌==◌, codes, Option, Some, None}
use Rattle.std.specs.Fmt.{decimal}
use Rattle.std.specs.List.{before_first}
use Rattle.hib_trace_lines.specs.Events.{EventText}

abbrev pub version_told : ℕ → List ℕ
version_told n = codes "version " ++ decimal n

-- the row that a write rests on is told by its value
abbrev pub value_told : List ℕ → List ℕ
value_told t = codes "value " ++ t

-- the row that is told if there is none
abbrev pub no_row : List ℕ
no_row = codes "no row"

-- by the value, else by the version
abbrev pub row_named : Option (List ℕ) → Option ℕ → List ℕ
row_named (Some t) v = value_told t
row_named None (Some n) = version_told n
row_named None None = no_row

abbrev pub row_told : EventText → List ℕ
row_told e = row_named e.value e.version

-- a key is of the table that stands before its first space
abbrev pub table_told : List ℕ → List ℕ
table_told k = before_first (λ b. b == 32) k
