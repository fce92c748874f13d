-- Tables by keys, for the clauses inside the crate.
use Rattle.std.specs.Prelude.{◌≡◌, ◌<◌, ◌+◌, ℕ, Bool, true, ◌&&◌, List, Option, Some, None, nat_lt, length, if◌then◌else◌}
use Rattle.std.specs.List.{list_all, filter_map, slice_index_or}
use Rattle.hib_trace_calls.specs.declared.calls.Call.{Call}
use Rattle.hib_trace_calls.specs.declared.calls.Write.{Write}
use Rattle.hib_trace_before.specs.Before.{is_behind, is_load_at, first}

-- an instant comes before another one, if there is one
abbrev pub is_first : ℕ → Option ℕ → Bool
is_first t None = true
is_first t (Some b) = nat_lt t b

-- a table has for each key when its first write began
abbrev pub AreBegins : List Write → List (Option ℕ) → Type 0
AreBegins ws bs = (k t : ℕ) → k < length bs → is_first t (slice_index_or bs k None) ≡ list_all (is_behind k t) ws

-- the row of a load that had ended before an instant, if there is one
abbrev pub row_by : ℕ → ℕ → Option ℕ → Call → Option ℕ
row_by clock k b c = if is_load_at k c && is_first (c.end + clock + clock) b then Some c.row else None

-- a table has for each key the row of the first such load
abbrev pub AreRows : List Call → List (Option ℕ) → ℕ → List (Option ℕ) → Type 0
AreRows cs bs clock rs = (k : ℕ) → k < length bs → slice_index_or rs k None ≡ first (filter_map (row_by clock k (slice_index_or bs k None)) cs)
