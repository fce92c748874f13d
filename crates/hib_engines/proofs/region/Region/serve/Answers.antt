use Rattle.hib_engines.proofs.Outcomes.{map_ok, both_ok}
use Rattle.hib_journal.specs.Runs.{is_fault}
use Rattle.std.proofs.Common.{ap, ◌∙◌}
use Rattle.hib_engines.proofs.Calm.{answer_calm}
use Rattle.hib_engines.proofs.RegionServed.{region_served}
use Rattle.hib_engines.proofs.region.Region.serve.Goals as goal

pub returns-clause-answered : goal.returns-clause-answered
returns-clause-answered c = both_ok c.act_on.result _ _ _ c.act_on.ensures.answer c.act_on.ensures.state (λ r p q script l n by k late e u.
    region_served c.laws.ensures script l n by c.args.now c.args.act.now r c.args.self.now _ k late e u p q)

pub returns-clause-calm : goal.returns-clause-calm
returns-clause-calm c = map_ok c.act_on.result _ _ c.act_on.ensures.answer (λ r p. ap is_fault p ∙ answer_calm c.args.self.now c.args.now c.args.act.now)
