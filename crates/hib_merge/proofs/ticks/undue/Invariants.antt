use Rattle.std.proofs.Common.{reverse, take}
use Rattle.hib_split_law.specs.Merged.{AreDue}
use Rattle.hib_clock.specs.LastTicks.{AreLast}
use Rattle.hib_merge.proofs.ticks.undue.Given as goal

abbrev pub invariant-loop-entry : goal.invariant-loop-entry
invariant-loop-entry l = record {
  last : AreLast l.ticks (reverse (take l.entry-index l.entries));
  due : AreDue (reverse (take l.entry-index l.entries));
}
