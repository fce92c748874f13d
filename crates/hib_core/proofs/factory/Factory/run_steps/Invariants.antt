use Rattle.std.proofs.Common.{◌≡◌, ℕ, ◌+◌}
use Rattle.hib_journal.specs.Kept.{past}
use Rattle.hib_journal.specs.Played.{play_steps}
use Rattle.hib_core.specs.Bound.{outside_count}
use Rattle.hib_core.specs.Playing.{Leads}
use Rattle.hib_core.proofs.factory.Factory.run_steps.Given as goal

-- what so many steps and some more play is what is played so far, and then those that are more
abbrev pub invariant-loop-step : goal.invariant-loop-step
invariant-loop-step g l = record {
  played : (n : ℕ) → Leads (play_steps g.N.Name.script l.number (l.step + n)) (play_steps g.N.Name.script l.number n) (past l.fn.self.journal) (past l.self.journal);
  going : l.self.refused ≡ l.fn.self.refused;
  inside : outside_count (past l.self.journal) ≡ outside_count (past l.fn.self.journal);
}
