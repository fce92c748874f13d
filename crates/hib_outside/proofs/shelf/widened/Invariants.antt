use Rattle.std.proofs.Common.{◌≡◌, take}
use Rattle.hib_base.specs.Start.{widened}
use Rattle.hib_outside.proofs.shelf.widened.Given as goal

abbrev pub invariant-loop-row : goal.invariant-loop-row
invariant-loop-row l = l.wide.items ≡ widened l.mapping (take l.row-index l.rows)
