use Rattle.std.proofs.Common.{◌-◌, length}
use Rattle.hib_nodes.proofs.Named.{AreNamed}
use Rattle.hib_nodes.proofs.placing.nodes_of.Given as goal

-- by the places from the last one back to here
abbrev pub invariant-loop-back : goal.invariant-loop-back
invariant-loop-back l = AreNamed l.places (length l.places - l.back) l.sessions l.nodes.items
