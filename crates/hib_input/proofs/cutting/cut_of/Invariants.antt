use Rattle.std.proofs.Common.{◌+◌, ◌-◌, ◌≤◌, length}
use Rattle.hib_input.proofs.Cuts.{SoFar}
use Rattle.hib_input.proofs.cutting.cut_of.Given as goal

abbrev pub decreases-loop-start : goal.decreases-loop-start
decreases-loop-start l = length l.text - l.start

abbrev pub invariant-loop-start : goal.invariant-loop-start
invariant-loop-start l = record {
  so_far : SoFar l.word l.text l.start l.count;
  within : l.start ≤ length l.text + 1;
  few : l.count ≤ l.start;
}
