-- What a run needs of its script.
use Rattle.std.specs.Prelude.{◌≡◌, ℕ, ◌<◌, ◌^◌, true, length, slice_get, Some}
use Rattle.hib_base.specs.Fits.{is_identifier}
use Rattle.hib_journal.specs.Types.{Order, Script}
use Rattle.hib_journal.specs.Next.{is_cached}
use Rattle.hib_engines.specs.Due.{HasQueries}

-- an order evicts rows of cached entities alone, and names them by an identifier
abbrev pub IsSound : Script → Order → Type 0
IsSound script (Order.Evict k) = (is_cached script k.entity ≡ true) × (is_identifier k.id ≡ true)
IsSound script _ = Unit {0}

-- what every valid script keeps: its entities and sessions have numbers, there is room for a result, the schedule evicts rows of
-- cached entities by identifiers alone, and the queries that are asked are there
pub record IsBuilt (script : Script) : Type 0 where
  pub entities : length script.mapping < 2 ^ 16
  pub sessions : length script.sessions < 2 ^ 32
  pub orders : (i : ℕ) (o : Order) → slice_get script.schedule i ≡ Some o → IsSound script o
  pub results : 0 < script.results
  pub queries : HasQueries script
