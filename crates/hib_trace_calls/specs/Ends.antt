-- A table of what is known of the ends of transactions.
use Rattle.std.specs.Prelude.{◌≡◌, ◌<◌, ℕ, List, [], ◌∷◌, Option, Some, None, length, unwrap_or}
use Rattle.std.specs.List.{filter_map, slice_index_or}
use Rattle.hib_trace_calls.specs.declared.calls.Call.{Call}
use Rattle.hib_trace_calls.specs.declared.calls.Fate.{Fate}
use Rattle.hib_trace_calls.specs.Writes.{end_of}

-- what is known after one more line tells an end
abbrev pub joined : Option Fate → Fate → Fate
joined None f = f
joined (Some g) f = Fate.Open

abbrev pub more : Option Fate → Option Fate → Option Fate
more known None = known
more known (Some f) = Some (joined known f)

-- what is known after lines have told these ends
abbrev pub known : List Fate → Option Fate
known [] = None
known (f ∷ []) = Some f
known (f ∷ g ∷ fs) = Some Fate.Open

-- a table has for each transaction below its length what these calls tell of its end
abbrev pub IsTable : List Call → List (Option Fate) → Type 0
IsTable cs fs = (t : ℕ) → t < length fs → slice_index_or fs t None ≡ known (filter_map (end_of t) cs)

-- the fate that a table has
abbrev pub looked : List (Option Fate) → Option ℕ → Fate
looked fs None = Fate.Open
looked fs (Some t) = unwrap_or (slice_index_or fs t None) Fate.Open
