use Rattle.std.proofs.Common.{◌≡◌, ◌≤◌, length, take}
use Rattle.hib_merge.proofs.differences.difference.Given as goal

abbrev pub invariant-loop-place : goal.invariant-loop-place
invariant-loop-place l = record {
  same : take l.place l.entries ≡ take l.place l.others;
  within : l.place ≤ length l.others;
}
