use Rattle.std.proofs.Common.{take}
use Rattle.hib_query_eval.specs.Covers.{Refer}
use Rattle.hib_query_eval.proofs.candidates.referring.Given as goal

-- the rows that refer to one of the identifiers so far are there
abbrev pub invariant-loop-target : goal.invariant-loop-target
invariant-loop-target l = Refer l.places.keys (take l.target-index l.targets) l.ids.items
