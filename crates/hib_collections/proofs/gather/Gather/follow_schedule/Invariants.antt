use Rattle.std.proofs.Common.{◌≡◌, drop}
use Rattle.hib_playing.specs.Playing.{Leads, play_each}
use Rattle.hib_collections.specs.Kept.{past}
use Rattle.hib_collections.specs.Played.{play_order}
use Rattle.hib_collections.proofs.gather.Gather.follow_schedule.Given as goal

-- the orders so far are played, and whether memory ran out in a call is said as before
abbrev pub invariant-loop-at : goal.invariant-loop-at
invariant-loop-at g l = record {
  played : Leads (play_each (play_order g.N.Name.script g.N.Name.defs) g.N.Name.script.schedule) (play_each (play_order g.N.Name.script g.N.Name.defs) (drop l.at g.N.Name.script.schedule)) (past l.fn.self.journal) (past l.self.journal);
  going : l.self.refused ≡ l.fn.self.refused;
}
