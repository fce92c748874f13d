use Rattle.std.proofs.Common.{◌≡◌, take}
use Rattle.hib_order_stage.proofs.stage.copy_rows.Given as goal

abbrev pub invariant-loop-row : goal.invariant-loop-row
invariant-loop-row l = l.copy.items ≡ take l.row-index l.row-items
