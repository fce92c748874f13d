use Rattle.std.proofs.Common.{◌≡◌, map, take}
use Rattle.std.specs.List.{filter}
use Rattle.hib_query_eval.specs.Met.{meets}
use Rattle.hib_query_eval.proofs.met.met_of.Given as goal

-- of the rows so far
abbrev pub invariant-loop-row : goal.invariant-loop-row
invariant-loop-row l = map (λ r. r.now) l.met.items ≡ filter (meets l.entity l.condition l.view) (take l.row-index l.rows)
