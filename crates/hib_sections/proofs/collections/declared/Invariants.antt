use Rattle.std.proofs.Common.{◌≡◌, [], drop, Ok}
use Rattle.hib_sections.specs.Collections.{declaring}
use Rattle.hib_sections.proofs.collections.declared.Given as goal

abbrev pub invariant-loop-line : goal.invariant-loop-line
invariant-loop-line l = declaring l.mapping (Ok l.defs) (drop l.line-index l.section) ≡ declaring l.mapping (Ok []) l.section
