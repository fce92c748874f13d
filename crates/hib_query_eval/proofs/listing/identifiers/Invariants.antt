use Rattle.std.proofs.Common.{◌≡◌, map, take}
use Rattle.std.specs.Prelude.{pos}
use Rattle.hib_journal.specs.Types.{Cell}
use Rattle.hib_query_eval.proofs.listing.identifiers.Given as goal

abbrev pub invariant-loop-row : goal.invariant-loop-row
invariant-loop-row l = l.list.items ≡ map (λ a. Cell.Int (pos a.now.0.id)) (take l.row-index l.rows)
