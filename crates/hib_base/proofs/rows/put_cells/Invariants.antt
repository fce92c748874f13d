use Rattle.std.proofs.Common.{◌≡◌}
use Rattle.hib_base.specs.Sets.{with_cells}
use Rattle.hib_base.proofs.rows.put_cells.Given as goal

-- the cells so far are set
abbrev pub invariant-loop-place : goal.invariant-loop-place
invariant-loop-place l = l.cells ≡ with_cells l.yielded l.fn.cells
