use Rattle.std.proofs.Common.{◌≡◌, ◌<◌, ℕ, length, take}
use Rattle.hib_journal.specs.Sessions.{own}
use Rattle.hib_split_law.specs.Merged.{list_of}
use Rattle.hib_merge.proofs.placing.own_lists.Given as goal

abbrev pub invariant-loop-entry : goal.invariant-loop-entry
invariant-loop-entry l = record {
  all : length l.lists.items ≡ l.count;
  lists : (s : ℕ) → s < l.count → list_of s l.lists.items ≡ own s (take l.entry-index l.entries);
}
