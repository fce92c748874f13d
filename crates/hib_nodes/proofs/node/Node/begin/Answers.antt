use Rattle.std.proofs.Common.{sym, subst}
use Rattle.hib_engines.proofs.Outcomes.{map_ok}
use Rattle.hib_engines.specs.Registry.{IsRegistry}
use Rattle.hib_nodes.specs.Standing.{NodeState}
use Rattle.hib_nodes.proofs.node.Node.begin.Goals as goal

pub returns-clause-served : goal.returns-clause-served
returns-clause-served c = map_ok c.serve.result _ _ c.serve.ensures.answered (λ r p script l k.
    p script l (subst (λ (v : NodeState). IsRegistry v.registry l) (sym c.self.view_is) k))
