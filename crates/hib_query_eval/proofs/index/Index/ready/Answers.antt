use Rattle.std.proofs.Common.{subst, sym}
use Rattle.hib_query_eval.specs.Places.{AreIndexes}
use Rattle.hib_query_eval.proofs.index.Index.ready.Goals as goal

pub invariant_of-self : goal.invariant_of-self
invariant_of-self c = (
  c.self.invariant.0,
  subst (AreIndexes c.add_asked.new.columns.items) c.as_slice.ensures.value
      (c.add_asked.ensures (subst (AreIndexes c.self.inside.columns.items) (sym c.as_slice.ensures.value) c.self.invariant.1)),
)
