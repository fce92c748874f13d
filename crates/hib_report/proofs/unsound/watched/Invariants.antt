use Rattle.std.proofs.Common.{reverse, take}
use Rattle.hib_report.specs.Watch.{Watches}
use Rattle.hib_report.proofs.unsound.watched.Given as goal

abbrev pub invariant-loop-entry : goal.invariant-loop-entry
invariant-loop-entry l = Watches l.watch.courses.entries l.watch.written.entries (reverse (take l.entry-index l.entries))
