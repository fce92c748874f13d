-- Rows in order of keys, parted at a place: those behind it stand apart, the last one first.
use Rattle.std.specs.Prelude.{Bool, false, if◌then◌else◌, [], ◌∷◌, ◌++◌, reverse}
use Rattle.hib_outside.specs.Types.{Key}
use Rattle.hib_base.specs.Keys.{same_key, is_before}
use Rattle.hib_base.specs.Tables.{Tables}

abbrev pub joined : Tables → Tables → Tables
joined front back = front ++ reverse back

-- whether the key of the first row comes before a key
abbrev pub first_before : Tables → Key → Bool
first_before [] k = false
first_before (e ∷ es) k = is_before e.0 k

-- whether the key of the last row does
abbrev pub ends_before : Tables → Key → Bool
ends_before t k = first_before (reverse t) k

-- whether the first row is that of a key
abbrev pub first_same : Tables → Key → Bool
first_same [] k = false
first_same (e ∷ es) k = same_key e.0 k

-- without the first row, if it is that of a key
abbrev pub unless_first : Key → Tables → Tables
unless_first k [] = []
unless_first k (e ∷ es) = if same_key e.0 k then es else e ∷ es
