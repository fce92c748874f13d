use Rattle.std.proofs.Common.{refl, sym, subst}
use Rattle.hib_engines.specs.Engines.{EnginesState, AreStanding}
use Rattle.hib_engines.proofs.Outside.{engines_killed}
use Rattle.hib_engines.proofs.engines.Engines.kill.Goals as goal

pub returns-clause-answered : goal.returns-clause-answered
returns-clause-answered g c = λ script told h now k late.
    let x : EnginesState = record { store = c.self.inside.store; registry = c.self.inside.registry; stamps = c.self.inside.stamps; regions = c.self.inside.regions.items; results = c.self.inside.results } in
    let y : EnginesState = record { store = c.kill-2.new.self; registry = c.kill.new.self; stamps = c.self.inside.stamps; regions = c.self.inside.regions.items; results = c.self.inside.results } in
    engines_killed c.laws.ensures script told h c.args.session now x y (subst (λ v. AreStanding script told h v) (sym c.self.view_is) k) late
    c.kill.ensures.stands c.kill-2.ensures.stands refl refl refl
