use Rattle.std.proofs.Common.{◌≡◌, ◌++◌, drop}
use Rattle.hib_flush.specs.Planned.{inserts_in}
use Rattle.hib_flush.proofs.planning.add_inserts.Given as goal

-- the inserts so far and those of the rest are all
abbrev pub invariant-loop-i : goal.invariant-loop-i
invariant-loop-i l = l.changes ++ inserts_in (drop l.i l.map.held) ≡ l.fn.changes ++ inserts_in l.map.held
