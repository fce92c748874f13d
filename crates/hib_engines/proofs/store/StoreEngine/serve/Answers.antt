use Rattle.std.proofs.Common.{sym, subst}
use Rattle.hib_engines.specs.Served.{HasQuery}
use Rattle.hib_engines.specs.Store.{IsStoreServed}
use Rattle.hib_engines.proofs.Outcomes.{map_ok}
use Rattle.hib_engines.proofs.store.StoreEngine.serve.Goals as goal

pub returns-in-Load-clause-answered : goal.returns-in-Load-clause-answered
returns-in-Load-clause-answered g c = map_ok c.load.result _ _ c.load.ensures.answered (λ r p told l now k u n.
    subst (λ a. IsStoreServed c.args.script.now told l now c.args.session a r c.load.new.self) (sym c.in-Load.is) (p c.args.script.now told l now k))

pub returns-in-List-clause-answered : goal.returns-in-List-clause-answered
returns-in-List-clause-answered g c = map_ok c.list.result _ _ c.list.ensures.answered (λ r p told l now k u n.
    subst (λ a. IsStoreServed c.args.script.now told l now c.args.session a r c.list.new.self) (sym c.in-List.is)
    (p told l now k (subst (λ a. HasQuery c.args.script.now a) c.in-List.is n)))

pub returns-in-Write-clause-answered : goal.returns-in-Write-clause-answered
returns-in-Write-clause-answered g c = map_ok c.write.result _ _ c.write.ensures.answered (λ r p told l now k u n.
    subst (λ a. IsStoreServed c.args.script.now told l now c.args.session a r c.write.new.self) (sym c.in-Write.is) (p c.args.script.now told l now k))

pub returns-in-Commit-clause-answered : goal.returns-in-Commit-clause-answered
returns-in-Commit-clause-answered g c = map_ok c.commit.result _ _ c.commit.ensures.answered (λ r p told l now k u n.
    subst (λ a. IsStoreServed c.args.script.now told l now c.args.session a r c.commit.new.self) (sym c.in-Commit.is) (p c.args.script.now told l now k))

pub returns-in-Rollback-clause-answered : goal.returns-in-Rollback-clause-answered
returns-in-Rollback-clause-answered g c = λ told l now k u n.
    subst (λ a. IsStoreServed c.args.script.now told l now c.args.session a c.rollback.result c.rollback.new.self) (sym c.in-Rollback.is) (c.rollback.ensures.answered c.args.script.now told l now k)
