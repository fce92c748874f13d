use Rattle.std.proofs.Common.{refl, sym, subst}
use Rattle.hib_engines.specs.Engines.{EnginesState, AreStanding}
use Rattle.hib_engines.proofs.Outcomes.{both_ok}
use Rattle.hib_engines.proofs.Outside.{engines_evicted}
use Rattle.hib_engines.proofs.engines.Engines.evict.Goals as goal

pub returns-clause-answered : goal.returns-clause-answered
returns-clause-answered g c = both_ok c.serve_region.result _ _ _ c.serve_region.ensures.answered c.serve_region.ensures.others (λ r p at script told h w cached late.
    let x : EnginesState = record { store = c.self.inside.store; registry = c.self.inside.registry; stamps = c.self.inside.stamps; regions = c.self.inside.regions.items; results = c.self.inside.results } in
    let y : EnginesState = record { store = c.self.inside.store; registry = c.self.inside.registry; stamps = c.self.inside.stamps; regions = c.serve_region.new.regions.items; results = c.self.inside.results } in
    engines_evicted c.laws.ensures script told h c.args.key c.args.now r x y (subst (λ v. AreStanding script told h v) (sym c.self.view_is) w) cached late p at refl refl refl refl)
