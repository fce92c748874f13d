use Rattle.std.proofs.Common.{map, take}
use Rattle.hib_print.specs.Lines.{query_line}
use Rattle.hib_print.specs.Steps.{AddsLines}
use Rattle.hib_print.proofs.queries.print_queries.Given as goal

abbrev pub invariant-loop-query : goal.invariant-loop-query
invariant-loop-query l = AddsLines l.fn.printer l.printer (map (λ q. query_line l.script q) (take l.query-index l.query-items))
