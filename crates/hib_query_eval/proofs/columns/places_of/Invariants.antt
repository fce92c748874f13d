use Rattle.std.proofs.Common.{take}
use Rattle.hib_query_eval.specs.Places.{IsIndexOf}
use Rattle.hib_query_eval.proofs.columns.places_of.Given as goal

-- the places of the rows so far
abbrev pub invariant-loop-row : goal.invariant-loop-row
invariant-loop-row l = IsIndexOf l.entity l.column l.places.keys (take l.row-index l.rows)
