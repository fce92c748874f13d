use Rattle.std.proofs.Common.{◌≡◌, ℕ, [], length}
use Rattle.hib_split_law.specs.Merged.{list_of}
use Rattle.hib_merge.proofs.placing.empty_lists.Given as goal

abbrev pub invariant-loop-at : goal.invariant-loop-at
invariant-loop-at l = record {
  all : length l.lists.items ≡ l._at;
  empty : (s : ℕ) → list_of s l.lists.items ≡ [];
}
