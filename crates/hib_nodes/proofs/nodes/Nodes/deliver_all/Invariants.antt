use Rattle.std.proofs.Common.{◌≡◌, ℕ, ◌==◌, length, false}
use Rattle.hib_playing.specs.Playing.{Leads}
use Rattle.hib_nodes_law.specs.Nodes.{queue}
use Rattle.hib_nodes.specs.Kept.{past}
use Rattle.hib_nodes.specs.Played.{has_next, play_queue}
use Rattle.hib_nodes.proofs.nodes.Nodes.deliver_all.Given as goal

abbrev pub invariant-pairs : goal.invariant-pairs
invariant-pairs g l = record {
  played : Leads (play_queue g.N.Name.script l.node) (play_queue g.N.Name.script l.node) (past l.fn.self.journal) (past l.self.journal);
  others : (m : ℕ) → (l.node == m) ≡ false → queue g.N.Name.script m (past l.self.journal) ≡ queue g.N.Name.script m (past l.fn.self.journal);
  stay : (s : ℕ) → has_next g.N.Name.script (past l.self.journal) s ≡ has_next g.N.Name.script (past l.fn.self.journal) s;
  going : l.self.refused ≡ l.fn.self.refused;
}

-- how many wait
abbrev pub decreases-pairs : goal.decreases-pairs
decreases-pairs g l = length (queue g.N.Name.script l.node (past l.self.journal))
