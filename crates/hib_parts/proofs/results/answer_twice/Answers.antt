use Rattle.std.proofs.Common.{sym, subst}
use Rattle.hib_engines.specs.Served.{IsServed, HasQuery}
use Rattle.hib_engines.specs.Results.{AreResults}
use Rattle.hib_engines.proofs.Outcomes.{both_ok}
use Rattle.hib_engines.proofs.ResultsServed.{look_served, keep_served}
use Rattle.hib_parts.proofs.results.answer_twice.Goals as goal

pub returns-in-Look-clause-answered : goal.returns-in-Look-clause-answered
returns-in-Look-clause-answered c = both_ok c.look_twice.result _ _ _ c.look_twice.ensures.reply c.look_twice.ensures.state (λ r p q script l by now k u n.
    subst (λ a. IsServed (λ m. AreResults script m c.look_twice.new.results) script l by now a r.0) (sym c.in-Look.is)
    (look_served c.laws.ensures script l by now c.in-Look.query r.0 c.args.results.now c.look_twice.new.results k p q))

pub returns-in-Keep-clause-answered : goal.returns-in-Keep-clause-answered
returns-in-Keep-clause-answered c = both_ok c.keep_twice.result _ _ _ c.keep_twice.ensures.reply c.keep_twice.ensures.state (λ r p q script l by now k u n.
    subst (λ a. IsServed (λ m. AreResults script m c.keep_twice.new.results) script l by now a r.0) (sym c.in-Keep.is)
    (keep_served c.laws.ensures script l by now c.in-Keep.query c.in-Keep.time c.in-Keep.list r.0 c.args.results.now c.keep_twice.new.results k
    (subst (λ a. HasQuery script a) c.in-Keep.is n) p q))
