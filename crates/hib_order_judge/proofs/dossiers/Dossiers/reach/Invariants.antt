use Rattle.std.proofs.Common.{◌≤◌, List, length}
use Rattle.hib_journal.specs.Sessions.{Journal}
use Rattle.hib_journal.specs.Types.{Entry}
use Rattle.hib_order_judge.specs.Dossiers.{AreDossiers}
use Rattle.hib_order_judge.proofs.dossiers.Dossiers.reach.Given as goal

abbrev pub invariant-loop-at : goal.invariant-loop-at
invariant-loop-at l = record {
  long : l._at ≤ length l.self.all.items;
  known : (es : List Entry) (h : Journal) → AreDossiers es h l.fn.self.all.items → AreDossiers es h l.self.all.items;
}
