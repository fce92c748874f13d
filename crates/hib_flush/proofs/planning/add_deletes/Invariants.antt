use Rattle.std.proofs.Common.{◌≡◌, ◌++◌, drop}
use Rattle.hib_flush.specs.Planned.{deletes_in}
use Rattle.hib_flush.proofs.planning.add_deletes.Given as goal

-- the deletes so far and those of the rest are all
abbrev pub invariant-loop-key : goal.invariant-loop-key
invariant-loop-key l = l.changes ++ deletes_in l.map.held (drop l.key-index l.map.removals) ≡ l.fn.changes ++ deletes_in l.map.held l.map.removals
