use Rattle.std.proofs.Common.{◌≡◌, ◌++◌, take}
use Rattle.hib_collections.specs.Text.{counts_text}
use Rattle.hib_collections.proofs.lines.put_counts.Given as goal

abbrev pub invariant-loop-at : goal.invariant-loop-at
invariant-loop-at l = l.out.items ≡ l.fn.out.items ++ counts_text l.entries 0 (take l.at l.defs)
