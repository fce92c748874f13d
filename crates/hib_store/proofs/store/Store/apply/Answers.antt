use Rattle.std.proofs.Common.{sym, subst}
use Rattle.hib_store.specs.Stores.{IsIndexed}
use Rattle.hib_store.proofs.Kept.{left_rows}
use Rattle.hib_store.proofs.store.Store.apply.Goals as goal

pub invariant_of-self-2 : goal.invariant_of-self-2
invariant_of-self-2 g c = (
  left_rows c.self.inside.entities c.take.result c.left.result (g.K.Keeper.tables c.self.inside.keeper) _ c.in_ok-commit.commit c.args.changes.now
      (subst (λ o. IsIndexed c.self.inside.entities o (g.K.Keeper.tables c.self.inside.keeper)) (sym c.take.ensures.value) c.self.invariant.0) c.left.ensures.rows c.in_ok-commit.ensures.tables,
  tt,
)
