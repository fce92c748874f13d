use Rattle.hib_merge.specs.Tearing.{AreSameBelow}
use Rattle.hib_merge.proofs.agreeing.parted.Given as goal

abbrev pub invariant-loop-s : goal.invariant-loop-s
invariant-loop-s l = AreSameBelow l.s l.mine l.entries
