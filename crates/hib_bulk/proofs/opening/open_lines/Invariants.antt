use Rattle.std.proofs.Common.{◌≡◌, map, take}
use Rattle.hib_bulk.specs.Steps.{fresh}
use Rattle.hib_bulk.proofs.opening.open_lines.Given as goal

abbrev pub invariant-loop-line : goal.invariant-loop-line
invariant-loop-line l = l.progress.items ≡ map fresh (take l._line-index l.lines)
