use Rattle.std.proofs.Common.{refl, sym, subst}
use Rattle.hib_journal.specs.Types.{Reply}
use Rattle.hib_engines.specs.Engines.{EnginesState, IsReady}
use Rattle.hib_engines.proofs.Answered.{failed_still, failed_commit}
use Rattle.hib_engines.proofs.engines.Engines.fail.Goals as goal

pub returns-in_default-clause-answered : goal.returns-in_default-clause-answered
returns-in_default-clause-answered g c = λ script told h now r k f.
    failed_still c.laws.ensures script told h c.args.session now c.args.act.now r c.args.self.now k f c.in_default.not-Commit

pub returns-in-Commit-clause-answered : goal.returns-in-Commit-clause-answered
returns-in-Commit-clause-answered g c = λ script told h now r k f.
    let x : EnginesState = record { store = c.self.inside.store; registry = c.self.inside.registry; stamps = c.self.inside.stamps; regions = c.self.inside.regions.items; results = c.self.inside.results } in
    let y : EnginesState = record { store = c.kill.new.self; registry = c.self.inside.registry; stamps = c.self.inside.stamps; regions = c.self.inside.regions.items; results = c.self.inside.results } in
    let w : IsReady script told h c.args.session now c.args.act.now x = subst (λ v. IsReady script told h c.args.session now c.args.act.now v) (sym c.self.view_is) k in
    failed_commit c.laws.ensures script told h c.args.session now c.args.act.now r Reply.Done x y w f c.in-Commit.is (c.kill.ensures.stands told h now w.standing.store) refl refl refl refl
