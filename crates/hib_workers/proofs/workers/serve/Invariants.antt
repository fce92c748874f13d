use Rattle.std.proofs.Common.{◌<◌, length}
use Rattle.hib_workers.proofs.workers.serve.Given as goal

-- the worker is at a session of the script
abbrev pub invariant-loop : goal.invariant-loop
invariant-loop g l = l.at.number < length g.N.Name.script.sessions
