use Rattle.std.proofs.Common.{sym, subst}
use Rattle.hib_engines.specs.Engines.{EnginesState, AreStanding}
use Rattle.hib_engines.proofs.Outside.{engines_restarted}
use Rattle.hib_engines.proofs.engines.Engines.restart.Goals as goal

pub returns-clause-answered : goal.returns-clause-answered
returns-clause-answered g c = λ script told h now k late.
    let x : EnginesState = record { store = c.self.inside.store; registry = c.self.inside.registry; stamps = c.self.inside.stamps; regions = c.self.inside.regions.items; results = c.self.inside.results } in
    let y : EnginesState = record { store = c.restart.new.self; registry = c.restart-2.new.self; stamps = c.restart-3.new.self; regions = c.restart_regions.new.regions.items; results = c.restart-4.new.self } in
    engines_restarted c.laws.ensures script told h now x y (subst (λ v. AreStanding script told h v) (sym c.self.view_is) k) late
    c.restart-2.ensures.stands c.restart.ensures.stands c.restart-3.ensures.stands c.restart_regions.ensures c.restart-4.ensures.stands
