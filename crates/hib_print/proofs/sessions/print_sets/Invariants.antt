use Rattle.std.proofs.Common.{flat_map, take}
use Rattle.hib_print.specs.Lines.{set_tokens}
use Rattle.hib_print.specs.Steps.{Adds}
use Rattle.hib_print.proofs.sessions.print_sets.Given as goal

abbrev pub invariant-loop-set : goal.invariant-loop-set
invariant-loop-set l = Adds l.fn.printer l.printer (flat_map (λ x. set_tokens l.script l.entity x) (take l.set-index l.sets))
