-- The last changes of keys, by their places in a batch.
use Rattle.std.specs.Prelude.{◌≡◌, ℕ, List, slice_get, take, Some, None, Option}
use Rattle.std.specs.Map.{lookup}
use Rattle.hib_base.specs.Keys.{same_key}
use Rattle.hib_base.specs.Tables.{last_on}
use Rattle.hib_outside.specs.Types.{Key, Change}

-- the change at a place, if there is one
abbrev pub change_at : List Change → Option ℕ → Option Change
change_at cs None = None
change_at cs (Some i) = slice_get cs i

-- each key has the place of its last change among the first n
abbrev pub HasLasts : List Change → ℕ → List (Key × ℕ) → Type 0
HasLasts cs n ps = (k : Key) → change_at cs (lookup (same_key k) ps) ≡ last_on k (take n cs)
