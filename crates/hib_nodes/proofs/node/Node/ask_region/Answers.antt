use Rattle.std.proofs.Common.{sym, subst}
use Rattle.hib_engines.proofs.Outcomes.{map_ok}
use Rattle.hib_engines.specs.Region.{IsPlaced}
use Rattle.hib_engines.specs.Regions.{region_of}
use Rattle.hib_nodes.specs.Standing.{NodeState}
use Rattle.hib_nodes.proofs.node.Node.ask_region.Goals as goal

pub returns-clause-served : goal.returns-clause-served
returns-clause-served c = map_ok c.serve_region.result _ _ c.serve_region.ensures.answered (λ r p script l by k.
    p script l by (subst (λ (v : NodeState). IsPlaced script c.args.entity l (region_of v.regions c.args.entity)) (sym c.self.view_is) k))
