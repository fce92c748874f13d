use Rattle.std.proofs.Common.{flat_map, take}
use Rattle.hib_print.specs.Lines.{sort_tokens}
use Rattle.hib_print.specs.Steps.{Adds}
use Rattle.hib_print.proofs.queries.print_sorts.Given as goal

abbrev pub invariant-loop-sort : goal.invariant-loop-sort
invariant-loop-sort l = Adds l.fn.printer l.printer (flat_map (λ x. sort_tokens l.script l.entity x) (take l.sort-index l.sorts))
