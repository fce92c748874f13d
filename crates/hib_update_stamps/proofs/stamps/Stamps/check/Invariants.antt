use Rattle.std.proofs.Common.{◌≡◌, drop}
use Rattle.hib_update_stamps.specs.Stamped.{checked}
use Rattle.hib_update_stamps.proofs.stamps.Stamps.check.Given as goal

-- no table so far is stale
abbrev pub invariant-loop-table : goal.invariant-loop-table
invariant-loop-table l = checked l.time l.tables l.self ≡ checked l.time (drop l.table-index l.tables) l.self
