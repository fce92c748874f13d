use Rattle.std.proofs.Common.{◌≡◌, ◌++◌, drop}
use Rattle.hib_flush.specs.Planned.{updates_in}
use Rattle.hib_flush.proofs.planning.add_updates.Given as goal

-- the updates so far and those of the rest are all
abbrev pub invariant-loop-i : goal.invariant-loop-i
invariant-loop-i l = l.changes ++ updates_in (drop l.i l.map.held) ≡ l.fn.changes ++ updates_in l.map.held
