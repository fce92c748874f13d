use Rattle.hib_journal.specs.Types.{Part}
use Rattle.hib_journal.specs.Kept.{past}
use Rattle.hib_parts.proofs.Lists.{part_begins}
use Rattle.hib_parts.proofs.Regions.{region_begins}
use Rattle.hib_parts.proofs.region.RegionPart.open.Goals as goal

pub invariant_of-result : goal.invariant_of-result
invariant_of-result g c = (
  c.requires.built,
  part_begins g.N.Name.script g.N.Name.from.tables (Part.Region c.args.entity) (past c.open-2.result) c.open-2.ensures.past,
  region_begins c.laws.ensures c.args.script.now g.N.Name.script c.args.entity c.entity.inside.0 c.at-kept.result.now (past c.open-2.result) c.open.result c.requires.script c.open-2.ensures.past c.entity.view_is c.at-kept.ensures c.open.ensures,
)
