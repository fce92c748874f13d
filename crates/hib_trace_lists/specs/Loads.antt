-- The loads of lists, by the keys of their queries, as places.
use Rattle.std.specs.Prelude.{◌≡◌, ◌<◌, ℕ, Option, None, List, Vec, length}
use Rattle.std.specs.List.{slice_index_or}
use Rattle.std.specs.declared.alloc.Global.{Global}
use Rattle.hib_trace_law.specs.declared.commits.Commit.{Commit}
use Rattle.hib_trace_lines.specs.declared.events.Operation.{Operation}
use Rattle.hib_trace_calls.specs.declared.calls.Call.{Call}
use Rattle.hib_traces.specs.Making.{AreAlike}
use Rattle.hib_traces.specs.Marks.{asks, IsStairs}
use Rattle.hib_traces.specs.Places.{AreInOrder, stands_at}
use Rattle.hib_traces.specs.declared.marks.Mark.{Mark}
use Rattle.hib_traces.specs.declared.places.Place.{Place}
use Rattle.hib_trace_lists.specs.Lists.{changed_on, may_be_fresh}

-- of a table the ends of its commits at their begins, as far as they matter
pub record IsChanges (cs : List Commit) (ms : List Mark) : Type 0 where
  pub stairs : IsStairs ms
  pub tell : (s t : ℕ) → asks s t ms ≡ changed_on cs s t

abbrev pub AreStairs : List (Vec Mark Global) → Type 0
AreStairs ms = (k : ℕ) (d : Vec Mark Global) → k < length ms → IsStairs (slice_index_or ms k d).items

abbrev pub TellChanges : (ℕ → List Commit) → List (Vec Mark Global) → Type 0
TellChanges of ms = (k s t : ℕ) (d : Vec Mark Global) → k < length ms → asks s t (slice_index_or ms k d).items ≡ changed_on (of k) s t

abbrev pub loaded_key : Operation → Option ℕ → Option ℕ
loaded_key Operation.ListLoad k = k
loaded_key _ k = None

-- the places of each key answer what its loads do
abbrev pub TellLoads : ℕ → (ℕ → List Commit) → List Call → List (Vec Place Global) → Type 0
TellLoads clock of cs vs = (k r e t : ℕ) (d : Vec Place Global) → k < length vs →
    stands_at r e t (slice_index_or vs k d).items ≡ may_be_fresh clock of cs k r e t

abbrev pub AreAllInOrder : List (Vec Place Global) → Type 0
AreAllInOrder vs = (k : ℕ) (d : Vec Place Global) → k < length vs → AreInOrder (slice_index_or vs k d).items

-- the same places in order
pub record IsOrdered (ps qs : List Place) : Type 0 where
  pub alike : AreAlike qs ps
  pub order : AreInOrder qs
