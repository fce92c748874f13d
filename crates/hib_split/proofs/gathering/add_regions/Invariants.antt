use Rattle.std.proofs.Common.{◌≡◌, ◌≤◌, ◌+◌, [], ◌++◌, map, reverse}
use Rattle.std.specs.Vec.{vec_len, vec_capacity}
use Rattle.hib_journal.specs.Types.{Part}
use Rattle.hib_journal.specs.Kept.{past}
use Rattle.hib_split_law.specs.Merged.{of_part_in}
use Rattle.hib_parts.specs.Run.{list_on}
use Rattle.hib_split.proofs.Gathered.{IsAdding}
use Rattle.hib_split.proofs.gathering.add_regions.Given as goal

abbrev pub invariant-regions : goal.invariant-regions
invariant-regions g l = record {
  room : vec_len l.lists + vec_len l.regions ≤ vec_capacity l.lists;
  adding : IsAdding g.N.Name.script g.N.Name.from.tables (map (λ r. r.entity) (reverse l.regions.items)) (map past l.lists.items);
  parts : (p : Part) → of_part_in p (map past l.lists.items) ++ list_on [] [] [] [] (reverse l.regions.items) p ≡ of_part_in p (map past l.fn.lists.items) ++ list_on [] [] [] [] (reverse l.fn.regions.items) p;
}

abbrev pub decreases-regions : goal.decreases-regions
decreases-regions g l = vec_len l.regions
