-- The instances of a session: what contracts see of an identity map.
use Rattle.std.specs.Prelude.{ℕ, Bool, true, false, if◌then◌else◌, not, ◌&&◌, List, [], ◌∷◌, ◌++◌, reverse, Some, None, Option}
use Rattle.std.specs.List.{filter}
use Rattle.hib_journal.specs.Types.{Key, Cell, Row, State, Held}
use Rattle.hib_journal.specs.Held.{with_cells}
use Rattle.hib_base.specs.Keys.{same_key}

-- instances by key, in order of arrival
abbrev pub Pairs : Type 0
Pairs = List (Key × Held)

-- the instances, and the keys that were removed, in order of their last removal
pub record MapState : Type 0 where
  pub held : Pairs
  pub removals : List Key

abbrev pub empty : MapState
empty = record { held = []; removals = [] }

-- instances that stand from the last to the first, or in order of arrival
abbrev pub faced : Bool → Pairs → Pairs
faced true ps = reverse ps
faced false ps = ps

-- the instance of a key, or none
abbrev pub look_in : Pairs → Key → Option Held
look_in [] k = None
look_in (p ∷ ps) k = if same_key k p.0 then Some p.1 else look_in ps k

-- each key stands once
abbrev pub is_absent : Option Held → Bool
is_absent None = true
is_absent (Some h) = false

abbrev pub are_distinct : Pairs → Bool
are_distinct [] = true
are_distinct (p ∷ ps) = is_absent (look_in ps p.0) && are_distinct ps

-- another instance in the place of that of a key; a new key comes last
abbrev pub put_in : Key → Held → Pairs → Pairs
put_in k h [] = (k, h) ∷ []
put_in k h (p ∷ ps) = if same_key k p.0 then (p.0, h) ∷ ps else p ∷ put_in k h ps

-- a key leaves, and the others keep their order
abbrev pub drop_in : Key → Pairs → Pairs
drop_in k [] = []
drop_in k (p ∷ ps) = if same_key k p.0 then ps else p ∷ drop_in k ps

abbrev pub add_in : Key → Held → Pairs → Pairs
add_in k h ps = ps ++ (k, h) ∷ []

abbrev pub without : Key → List Key → List Key
without k ks = filter (λ j. not (same_key j k)) ks

-- a key that is removed comes last
abbrev pub remove_last : Key → List Key → List Key
remove_last k ks = without k ks ++ k ∷ []

-- the instance of a key changes in its place, if there is one
abbrev pub change_in : Key → (Held → Held) → Pairs → Pairs
change_in k f [] = []
change_in k f (p ∷ ps) = if same_key k p.0 then (p.0, f p.1) ∷ ps else p ∷ change_in k f ps

abbrev pub state_written : State → State
state_written State.Removed = State.Removed
state_written _ = State.Managed

-- an instance whose row was written: it stands for that row, and stays removed if it is
abbrev pub written : Row → Held → Held
written r h = record { state = state_written h.state; base = Some r; row = record { version = r.version; cells = h.row.cells } }

abbrev pub as_removed : Held → Held
as_removed h = record { state = State.Removed; base = h.base; row = h.row }

abbrev pub with_sets : List (ℕ × Cell) → Held → Held
with_sets sets h = record { state = h.state; base = h.base; row = record { version = h.row.version; cells = with_cells sets h.row.cells } }
