-- Results of queries by their last use.
use Rattle.std.specs.Prelude.{ℕ, ◌-◌, List, ◌∷◌, nat_eq, take, slice_get, Some, None, Option, is_some, if◌then◌else◌}
use Rattle.std.specs.Option.{option_map_or}
use Rattle.std.specs.Map.{lookup, lookup_entry, remove_entry}
use Rattle.hib_journal.specs.Results.{Result}

-- a query with its result: the time, and the list
abbrev pub Kept : Type 0
Kept = ℕ × Result

-- at most so many results, the most recently used first
pub record Ranked : Type 0 where
  pub capacity : ℕ
  pub kept : List Kept

abbrev pub result_of : ℕ → List Kept → Option Result
result_of q kept = lookup (nat_eq q) kept

-- after a use a query that is kept goes first
abbrev pub used : ℕ → List Kept → List Kept
used q kept = option_map_or (λ e. e ∷ remove_entry (nat_eq q) kept) (lookup_entry (nat_eq q) kept) kept

-- a result that is kept goes first; if its query is new and there is no room, the last goes
abbrev pub with_result : ℕ → Result → Ranked → List Kept
with_result q result r =
    option_map_or (λ e. (e.0, result) ∷ remove_entry (nat_eq q) r.kept) (lookup_entry (nat_eq q) r.kept) ((q, result) ∷ take (r.capacity - 1) r.kept)

-- the query whose result goes
abbrev pub dropped_for : ℕ → Ranked → Option ℕ
dropped_for q r =
    if is_some (result_of q r.kept) then None else option_map_or (λ (e : Kept). Some e.0) (slice_get r.kept (r.capacity - 1)) None
