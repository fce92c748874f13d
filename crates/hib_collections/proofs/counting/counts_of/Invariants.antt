use Rattle.std.proofs.Common.{◌≡◌, ℕ, ◌<◌, get_or, length, take}
use Rattle.hib_collections.specs.declared.counting.Counts.{Counts}
use Rattle.hib_collections.specs.Counted.{counts_on}
use Rattle.hib_collections.proofs.counting.counts_of.Given as goal

abbrev pub invariant-loop-entry : goal.invariant-loop-entry
invariant-loop-entry l = record {
  length_is : length l.counts.items ≡ l.number;
  counted : (c : ℕ) (d : Counts) → c < l.number → get_or l.counts.items c d ≡ counts_on c (take l.entry-index l.entries);
}
