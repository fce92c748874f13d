use Rattle.std.proofs.Common.{◌≡◌, map, take}
use Rattle.hib_merge.proofs.pointed.Pointed.copy.Given as goal

abbrev pub invariant-loop-entry : goal.invariant-loop-entry
invariant-loop-entry l = l.all.list ≡ map (λ r. r.now) (take l.entry-index l.entry-items)
