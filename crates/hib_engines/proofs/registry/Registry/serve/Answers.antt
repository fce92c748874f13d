use Rattle.hib_engines.proofs.Outcomes.{both_ok}
use Rattle.hib_engines.proofs.RegistryServed.{begin_served, all_before}
use Rattle.hib_engines.proofs.registry.Registry.serve.Goals as goal

pub returns-in-Begin-clause-answered : goal.returns-in-Begin-clause-answered
returns-in-Begin-clause-answered c = both_ok c.begin.result _ _ _ c.begin.ensures.reply c.begin.ensures.state (λ r p q script l k late e.
    begin_served script l c.args.session c.args.now c.args.act.now r c.args.self.now c.begin.new.self k late e
    (p (all_before c.args.self.now l c.args.now k late)) (q (all_before c.args.self.now l c.args.now k late)))
