use Rattle.std.proofs.Common.{◌≡◌, take}
use Rattle.hib_merge.proofs.pointed.Pointed.of.Given as goal

abbrev pub invariant-loop-entry : goal.invariant-loop-entry
invariant-loop-entry l = l.all ≡ take l.entry-index l.entries
