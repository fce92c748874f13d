use Rattle.std.proofs.Common.{◌≡◌, take}
use Rattle.hib_listeners.specs.Statistics.{counted}
use Rattle.hib_listeners.proofs.statistics.Statistics.of_journal.Given as goal

abbrev pub invariant-loop-i : goal.invariant-loop-i
invariant-loop-i l = l.counts ≡ counted l.script (take l.i l.journal.list)
