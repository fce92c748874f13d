use Rattle.std.proofs.Common.{reverse, take}
use Rattle.hib_audit.specs.Breaks.{start_rows}
use Rattle.hib_audit.specs.Standing.{Knows}
use Rattle.hib_audit.proofs.auditing.first_bad.Given as goal

-- the entries so far were taken
abbrev pub invariant-loop-at : goal.invariant-loop-at
invariant-loop-at l = Knows l.script (start_rows l.script) (reverse (take l.at l.entries)) l.auditor
