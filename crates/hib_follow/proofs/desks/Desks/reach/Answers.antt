use Rattle.std.proofs.Common.{arith, sym, subst}
use Rattle.hib_follow.proofs.Noted.{reached}
use Rattle.hib_follow.specs.Desks.{AreDesks}
use Rattle.hib_follow.proofs.desks.Desks.reach.Goals as goal

pub loop-at-preserved : goal.loop-at-preserved
loop-at-preserved c = record {
  long = omega (arith, c.in_ok-push.ensures.len, c.loop-at.invariant.long);
  known = λ es h a. subst (AreDesks es h) (sym c.in_ok-push.ensures.items)
      (reached es h c.loop-at.self.all.items c.new.result (c.new.ensures es) (c.loop-at.invariant.known es h a));
}
