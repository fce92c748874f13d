use Rattle.std.proofs.Common.{sym, ◌∙◌}
use Rattle.hib_criteria.proofs.Parts.{parts_torn, parts_ended}
use Rattle.hib_criteria.proofs.conditions.condition.Goals as goal

pub returns-in-None : goal.returns-in-None
returns-in-None c =
    parts_torn c.args.nodes c.loop-node.rest.items c.pop.new.self.items c.loop-node.conds c.in-Some.node c.loop-node.invariant c.in-Some.ensures.items (rw c.in-None.is at c.in_ok-more.ensures)

pub returns : goal.returns
returns c = parts_ended c.args.nodes c.loop-node.rest.items c.loop-node.conds c.only.result c.loop-node.invariant (sym c.loop-node.rest.ok.0 ∙ c.in_default.ensures.cases.0) c.only.ensures
