use Rattle.std.proofs.Common.{sym, subst}
use Rattle.hib_base.specs.declared.entries.Act.{Act}
use Rattle.hib_engines.specs.Store.{IsStored, IsStoreServed}
use Rattle.hib_engines.proofs.QueryTables.{looked_up}
use Rattle.hib_engines.proofs.Stored.{list_served}
use Rattle.hib_engines.proofs.store.StoreEngine.list.Goals as goal

pub returns-clause-answered : goal.returns-clause-answered
returns-clause-answered g c = λ told l now k q.
    subst (λ r. IsStoreServed c.args.script.now told l now c.args.session (Act.List c.args.query) r c.list.new.self) (sym c.listed_reply.ensures)
    (list_served c.args.script.now told l now c.args.session c.args.query c.in-Some.query.now c.in_ok-listed.listed c.self.inside.store c.list.new.self (subst (λ x. IsStored told l x) (sym c.self.view_is) k)
    (looked_up c.as_slice.result.now c.args.script.now.queries c.query.inside.0 c.args.query c.in-Some.query.now c.in-Some.ensures.lookup.3.0 c.in-Some.ensures.lookup.1 c.as_slice.ensures c.query.view_is)
    c.in_ok-listed.ensures.listed c.in_ok-listed.ensures.tables c.in_ok-listed.ensures.written)
