use Rattle.std.proofs.Common.{arith, sym, subst}
use Rattle.hib_order_judge.proofs.Noted.{reached}
use Rattle.hib_order_judge.specs.Dossiers.{AreDossiers}
use Rattle.hib_order_judge.proofs.dossiers.Dossiers.reach.Goals as goal

pub loop-at-preserved : goal.loop-at-preserved
loop-at-preserved c = record {
  long = omega (arith, c.in_ok-push.ensures.len, c.loop-at.invariant.long);
  known = λ es h a. subst (AreDossiers es h) (sym c.in_ok-push.ensures.items)
      (reached es h c.loop-at.self.all.items c.new.result (c.new.ensures es) (c.loop-at.invariant.known es h a));
}
