use Rattle.std.proofs.Common.{◌≡◌, ◌++◌, take}
use Rattle.hib_base.specs.Start.{defaults_of}
use Rattle.hib_base.proofs.widening.add_defaults.Given as goal

abbrev pub invariant-loop-column : goal.invariant-loop-column
invariant-loop-column l = l.cells.items ≡ l.fn.cells.items ++ defaults_of (take l.column-index l.columns)
