use Rattle.std.proofs.Common.{◌≡◌, ℕ, ◌+◌}
use Rattle.hib_collections.specs.Kept.{past}
use Rattle.hib_playing.specs.Playing.{Leads, play_steps}
use Rattle.hib_collections_law.specs.Gathered.{is_by}
use Rattle.hib_collections.specs.Played.{has_next}
use Rattle.hib_collections.proofs.gather.Gather.run_steps.Given as goal

-- what so many steps and some more play is what is played so far, and then those that are more
abbrev pub invariant-loop-step : goal.invariant-loop-step
invariant-loop-step g l = record {
  played : (n : ℕ) → Leads (play_steps (has_next g.N.Name.script g.N.Name.defs) is_by l.number (l.step + n)) (play_steps (has_next g.N.Name.script g.N.Name.defs) is_by l.number n) (past l.fn.self.journal) (past l.self.journal);
  going : l.self.refused ≡ l.fn.self.refused;
}
