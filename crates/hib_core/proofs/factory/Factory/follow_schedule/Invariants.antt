use Rattle.std.proofs.Common.{◌≡◌, ◌≤◌, ◌+◌, drop}
use Rattle.hib_journal.specs.Kept.{past}
use Rattle.hib_journal.specs.Played.{play_orders}
use Rattle.hib_core.specs.Bound.{outside_count}
use Rattle.hib_core.specs.Playing.{Leads, AreNamed}
use Rattle.hib_core.proofs.factory.Factory.follow_schedule.Given as goal

-- the orders so far are played, and whether memory ran out in a call is said as before
abbrev pub invariant-loop-at : goal.invariant-loop-at
invariant-loop-at g l = record {
  played : Leads (play_orders g.N.Name.script g.N.Name.script.schedule) (play_orders g.N.Name.script (drop l.at g.N.Name.script.schedule)) (past l.fn.self.journal) (past l.self.journal);
  going : l.self.refused ≡ l.fn.self.refused;
  outside : outside_count (past l.self.journal) ≤ outside_count (past l.fn.self.journal) + l.at;
  named : AreNamed (past l.fn.self.journal) (past l.self.journal);
}
