use Rattle.std.proofs.Common.{◌≡◌, ◌<◌, ℕ, false, map}
use Rattle.hib_journal.specs.Types.{Part}
use Rattle.hib_journal.specs.Kept.{past}
use Rattle.hib_journal.specs.Lists.{of_part}
use Rattle.hib_split_law.specs.Apart.{is_own}
use Rattle.hib_split_law.specs.Merged.{list_of, of_part_in}
use Rattle.hib_split.specs.Gathered.{IsGathered}
use Rattle.hib_split.proofs.gathering.add_own_lists.Given as goal

abbrev pub invariant-loop-number : goal.invariant-loop-number
invariant-loop-number g l = record {
  gathered : IsGathered g.N.Name.script g.N.Name.from.tables (Part.Own l.number) (map past l.lists.items);
  shared : (p : Part) → is_own p ≡ false → of_part_in p (map past l.lists.items) ≡ of_part_in p (map past l.fn.lists.items);
  own : (s : ℕ) → s < l.number → of_part_in (Part.Own s) (map past l.lists.items) ≡ of_part (Part.Own s) (list_of s (map past l.mine));
}
