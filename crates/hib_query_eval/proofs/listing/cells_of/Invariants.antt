use Rattle.std.specs.Prelude.{unwrap_or, false}
use Rattle.hib_journal.specs.Types.{Cell}
use Rattle.std.proofs.Common.{◌≡◌, map, take, slice_get}
use Rattle.hib_query_eval.proofs.listing.cells_of.Given as goal

abbrev pub invariant-loop-row : goal.invariant-loop-row
invariant-loop-row l = l.list.items ≡ map (λ a. unwrap_or (slice_get a.now.1.cells l.column) (Cell.Bool false)) (take l.row-index l.rows)
