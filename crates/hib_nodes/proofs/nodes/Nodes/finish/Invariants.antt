use Rattle.std.proofs.Common.{◌≡◌, ℕ, ◌-◌, ◌<◌, length, false}
use Rattle.std.specs.List.{range_with_len}
use Rattle.hib_playing.specs.Playing.{Leads, play_all, play_each}
use Rattle.hib_nodes.specs.Kept.{past}
use Rattle.hib_nodes.specs.Played.{has_next, is_by, play_sessions}
use Rattle.hib_nodes.proofs.nodes.Nodes.finish.Given as goal

-- those so far are at their end
abbrev pub invariant-loop-number : goal.invariant-loop-number
invariant-loop-number g l = record {
  played : Leads (play_sessions g.N.Name.script)
      (play_each (play_all (has_next g.N.Name.script) is_by) (range_with_len l.number (length g.N.Name.script.sessions - l.number))) (past l.fn.self.journal) (past l.self.journal);
  over : (s : ℕ) → s < l.number → has_next g.N.Name.script (past l.self.journal) s ≡ false;
  going : l.self.refused ≡ l.fn.self.refused;
}
