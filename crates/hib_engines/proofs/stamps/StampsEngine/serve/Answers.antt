use Rattle.std.proofs.Common.{◌+◌, length, ap, sym, subst, ◌∙◌}
use Rattle.hib_engines.specs.Served.{IsServed}
use Rattle.hib_engines.specs.Stamps.{AreStamps}
use Rattle.hib_engines.proofs.Outcomes.{map_ok}
use Rattle.hib_engines.proofs.StampsServed.{pre_served, stamp_served, check_served, stamped_length}
use Rattle.hib_engines.proofs.stamps.StampsEngine.serve.Goals as goal

pub returns-in-Pre-clause-answered : goal.returns-in-Pre-clause-answered
returns-in-Pre-clause-answered c = λ l by k u.
    subst (λ a. IsServed (λ m. AreStamps c.args.script.now m c.pre.new.self) c.args.script.now l by c.args.now a c.pre.result) (sym c.in-Pre.is)
    (pre_served c.laws.ensures c.args.script.now l by c.args.now c.in-Pre.tables c.pre.result c.args.self.now c.pre.new.self k c.pre.ensures.reply c.pre.ensures.state)

pub returns-in-Pre-clause-length : goal.returns-in-Pre-clause-length
returns-in-Pre-clause-length c = ap length c.pre.ensures.state ∙ stamped_length c.in-Pre.tables (c.args.now + c.args.script.now.timeout) c.args.self.now

pub returns-in-Stamp-clause-answered : goal.returns-in-Stamp-clause-answered
returns-in-Stamp-clause-answered c = λ l by k u.
    subst (λ a. IsServed (λ m. AreStamps c.args.script.now m c.stamp.new.self) c.args.script.now l by c.args.now a c.stamp.result) (sym c.in-Stamp.is)
    (stamp_served c.laws.ensures c.args.script.now l by c.args.now c.in-Stamp.tables c.stamp.result c.args.self.now c.stamp.new.self k c.stamp.ensures.reply c.stamp.ensures.state)

pub returns-in-Stamp-clause-length : goal.returns-in-Stamp-clause-length
returns-in-Stamp-clause-length c = ap length c.stamp.ensures.state ∙ stamped_length c.in-Stamp.tables c.args.now c.args.self.now

pub returns-in-Check-clause-answered : goal.returns-in-Check-clause-answered
returns-in-Check-clause-answered c = map_ok c.check.result _ _ c.check.ensures (λ r p l by k u.
    subst (λ a. IsServed (λ m. AreStamps c.args.script.now m c.args.self.now) c.args.script.now l by c.args.now a r) (sym c.in-Check.is)
    (check_served c.laws.ensures c.args.script.now l by c.args.now c.in-Check.query c.in-Check.time r c.args.self.now k p))
