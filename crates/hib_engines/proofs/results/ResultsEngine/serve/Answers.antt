use Rattle.std.proofs.Common.{sym, subst}
use Rattle.hib_engines.specs.Served.{IsServed, HasQuery}
use Rattle.hib_engines.specs.Results.{AreResults}
use Rattle.hib_engines.proofs.Outcomes.{both_ok}
use Rattle.hib_engines.proofs.ResultsServed.{look_served, keep_served}
use Rattle.hib_engines.proofs.results.ResultsEngine.serve.Goals as goal

pub returns-in-Look-clause-answered : goal.returns-in-Look-clause-answered
returns-in-Look-clause-answered c = both_ok c.look.result _ _ _ c.look.ensures.reply c.look.ensures.state (λ r p q script l by now k u n.
    subst (λ a. IsServed (λ m. AreResults script m c.look.new.self) script l by now a r) (sym c.in-Look.is)
    (look_served c.laws.ensures script l by now c.in-Look.query r c.args.self.now c.look.new.self k p q))

pub returns-in-Keep-clause-answered : goal.returns-in-Keep-clause-answered
returns-in-Keep-clause-answered c = both_ok c.keep.result _ _ _ c.keep.ensures.reply c.keep.ensures.state (λ r p q script l by now k u n.
    subst (λ a. IsServed (λ m. AreResults script m c.keep.new.self) script l by now a r) (sym c.in-Keep.is)
    (keep_served c.laws.ensures script l by now c.in-Keep.query c.in-Keep.time c.in-Keep.list r c.args.self.now c.keep.new.self k
    (subst (λ a. HasQuery script a) c.in-Keep.is n) p q))
