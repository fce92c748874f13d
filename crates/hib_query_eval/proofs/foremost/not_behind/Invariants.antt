use Rattle.std.proofs.Common.{◌≡◌, true, not, ◌&&◌, map, take}
use Rattle.std.specs.List.{filter, list_all}
use Rattle.hib_query_eval.specs.Enough.{is_listed}
use Rattle.hib_query_eval.specs.Orders.{is_behind, is_alike}
use Rattle.hib_query_eval.proofs.foremost.not_behind.Given as goal

-- of the rows so far
abbrev pub invariant-loop-row : goal.invariant-loop-row
invariant-loop-row l = record {
  met : map (λ r. r.now) l.met.items ≡ filter (λ a. not (is_behind l.sort l.bound a) && is_listed l.query l.view a) (take l.row-index l.rows);
  alike : list_all (is_alike l.sort l.bound) (take l.row-index l.rows) ≡ true;
}
