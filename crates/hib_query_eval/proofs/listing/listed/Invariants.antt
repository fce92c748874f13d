use Rattle.std.proofs.Common.{◌≡◌, map, take}
use Rattle.std.specs.List.{filter}
use Rattle.hib_query_eval.specs.Enough.{is_listed, first_of}
use Rattle.hib_query_eval.proofs.listing.listed.Given as goal

-- of the rows so far
abbrev pub invariant-loop-row : goal.invariant-loop-row
invariant-loop-row l = map (λ r. r.now) l.met.items ≡ first_of l.most (filter (is_listed l.query l.view) (take l.row-index l.rows))
