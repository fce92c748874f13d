use Rattle.std.proofs.Common.{flat_map, take}
use Rattle.hib_print.specs.Lines.{entity_lines}
use Rattle.hib_print.specs.Steps.{AddsLines}
use Rattle.hib_print.proofs.mapping.print_mapping.Given as goal

abbrev pub invariant-loop-entity : goal.invariant-loop-entity
invariant-loop-entity l = AddsLines l.fn.printer l.printer (flat_map (λ e. entity_lines l.script e) (take l.entity-index l.entity-items))
