use Rattle.std.proofs.Common.{◌≡◌, drop}
use Rattle.hib_playing.specs.Playing.{Leads, play_each}
use Rattle.hib_nodes.specs.Kept.{past}
use Rattle.hib_nodes.specs.Played.{play_order}
use Rattle.hib_nodes.proofs.nodes.Nodes.follow_orders.Given as goal

-- the orders so far are played
abbrev pub invariant-loop-at : goal.invariant-loop-at
invariant-loop-at g l = record {
  played : Leads (play_each (play_order g.N.Name.script) g.N.Name.orders) (play_each (play_order g.N.Name.script) (drop l.at g.N.Name.orders)) (past l.fn.self.journal) (past l.self.journal);
  going : l.self.refused ≡ l.fn.self.refused;
}
