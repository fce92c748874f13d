use Rattle.std.proofs.Common.{[], ◌++◌, map, reverse, sym, ◌∙◌, arith}
use Rattle.hib_journal.specs.Kept.{past}
use Rattle.hib_split_law.specs.Merged.{of_part_in}
use Rattle.hib_parts.specs.Run.{list_on}
use Rattle.hib_split.proofs.Gathered.{adding_region}
use Rattle.hib_split.proofs.Shared.{region_added, regions_done}
use Rattle.hib_split.proofs.gathering.add_regions.Goals as goal

pub regions-preserved : goal.regions-preserved
regions-preserved g c = record {
  room = omega (arith, c.in-Some.ensures.cases, c.push_reserved.ensures.len, c.push_reserved.ensures.capacity, c.regions.invariant.room);
  adding = adding_region g.N.Name.script g.N.Name.from.tables (λ r. r.entity) c.regions.regions.items c.pop.new.self.items c.in-Some.region c.regions.lists.items c.push_reserved.new.self.items c.close.result c.in-Some.ensures.items
      c.push_reserved.ensures.items c.close.ensures.part c.close.ensures.legal c.regions.invariant.adding;
  parts = region_added g.N.Name.script g.N.Name.from.tables c.regions.regions.items c.pop.new.self.items c.in-Some.region c.regions.lists.items c.push_reserved.new.self.items c.close.result
      (λ p. of_part_in p (map past c.args.lists.now.items) ++ list_on [] [] [] [] (reverse c.args.regions.items) p) c.in-Some.ensures.items c.push_reserved.ensures.items c.close.ensures.part c.close.ensures.list c.regions.invariant.adding c.regions.invariant.parts;
}

pub returns-clause-parts : goal.returns-clause-parts
returns-clause-parts g c = regions_done c.regions.regions.items (map past c.regions.lists.items) (λ p. of_part_in p (map past c.args.lists.now.items) ++ list_on [] [] [] [] (reverse c.args.regions.items) p) (sym c.regions.regions.ok.0 ∙ c.in_default.ensures.cases.0) c.regions.invariant.parts
