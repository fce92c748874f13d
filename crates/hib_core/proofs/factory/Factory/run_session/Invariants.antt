use Rattle.std.proofs.Common.{◌≡◌, ℕ, ◌==◌, false}
use Rattle.hib_journal.specs.Kept.{past}
use Rattle.hib_journal.specs.Sessions.{own}
use Rattle.hib_journal.specs.Played.{has_next}
use Rattle.hib_core.specs.Factory.{left_at}
use Rattle.hib_core.specs.Bound.{outside_count}
use Rattle.hib_core.specs.Playing.{play_all, Leads}
use Rattle.hib_core.proofs.factory.Factory.run_session.Given as goal

abbrev pub invariant-steps : goal.invariant-steps
invariant-steps g l = record {
  played : Leads (play_all g.N.Name.script l.number) (play_all g.N.Name.script l.number) (past l.fn.self.journal) (past l.self.journal);
  others : (s : ℕ) → (l.number == s) ≡ false → own s (past l.self.journal) ≡ own s (past l.fn.self.journal);
  stay : (s : ℕ) → (l.number == s) ≡ false → has_next g.N.Name.script (past l.self.journal) s ≡ has_next g.N.Name.script (past l.fn.self.journal) s;
  going : l.self.refused ≡ l.fn.self.refused;
  inside : outside_count (past l.self.journal) ≡ outside_count (past l.fn.self.journal);
}

abbrev pub decreases-steps : goal.decreases-steps
decreases-steps g l = left_at g.N.Name.script l.number l.self.sessions
