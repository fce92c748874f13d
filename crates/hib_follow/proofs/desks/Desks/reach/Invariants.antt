use Rattle.std.proofs.Common.{◌≤◌, List, length}
use Rattle.hib_journal.specs.Sessions.{Journal}
use Rattle.hib_journal.specs.Types.{Entry}
use Rattle.hib_follow.specs.Desks.{AreDesks}
use Rattle.hib_follow.proofs.desks.Desks.reach.Given as goal

abbrev pub invariant-loop-at : goal.invariant-loop-at
invariant-loop-at l = record {
  long : l._at ≤ length l.self.all.items;
  known : (es : List Entry) (h : Journal) → AreDesks es h l.fn.self.all.items → AreDesks es h l.self.all.items;
}
