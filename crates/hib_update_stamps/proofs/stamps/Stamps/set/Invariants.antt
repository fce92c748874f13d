use Rattle.std.proofs.Common.{◌≡◌, drop}
use Rattle.hib_update_stamps.specs.Stamped.{stamped}
use Rattle.hib_update_stamps.proofs.stamps.Stamps.set.Given as goal

-- the tables so far are stamped
abbrev pub invariant-loop-table : goal.invariant-loop-table
invariant-loop-table l = stamped l.tables l.time l.fn.self ≡ stamped (drop l.table-index l.tables) l.time l.self-inside.stamps.items
