use Rattle.std.proofs.Common.{◌≡◌, drop}
use Rattle.hib_session.specs.Queries.{touches}
use Rattle.hib_session.proofs.queries.touches.Given as goal

-- none of the changes so far touches it
abbrev pub invariant-loop-change : goal.invariant-loop-change
invariant-loop-change l = touches l.entities l.query l.changes ≡ touches l.entities l.query (drop l.change-index l.changes)
