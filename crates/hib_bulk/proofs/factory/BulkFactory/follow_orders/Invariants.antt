use Rattle.std.proofs.Common.{◌≡◌, drop}
use Rattle.hib_playing.specs.Playing.{Leads, play_each}
use Rattle.hib_bulk.specs.Kept.{past}
use Rattle.hib_bulk.specs.Played.{play_order}
use Rattle.hib_bulk.proofs.factory.BulkFactory.follow_orders.Given as goal

-- the orders so far are played
abbrev pub invariant-loop-at : goal.invariant-loop-at
invariant-loop-at g l = Leads (play_each (play_order g.N.Name.script g.N.Name.lines) g.N.Name.orders) (play_each (play_order g.N.Name.script g.N.Name.lines) (drop l.at g.N.Name.orders))
    (past l.fn.self.journal) (past l.self.journal)
