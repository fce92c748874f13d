use Rattle.std.proofs.Common.{◌≡◌, drop}
use Rattle.hib_collections_law.specs.Members.{asked, asked_from}
use Rattle.hib_collections.proofs.owners.asked.Given as goal

abbrev pub invariant-loop-at : goal.invariant-loop-at
invariant-loop-at l = asked l.defs l.query ≡ asked_from l.at (drop l.at l.defs) l.query
