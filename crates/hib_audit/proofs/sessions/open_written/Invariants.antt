use Rattle.hib_audit.proofs.Kept.{AreNew}
use Rattle.hib_audit.proofs.sessions.open_written.Given as goal

abbrev pub invariant-loop-at : goal.invariant-loop-at
invariant-loop-at l = AreNew l._at l.written.items
