-- A count that rose by some at least hasn't fallen.
use Rattle.std.proofs.Common.{ℕ, Option, arith}
use Rattle.hib_base.specs.Tables.{Tables}
use Rattle.hib_journal.specs.Sessions.{Journal}
use Rattle.hib_engines.specs.Counts.{RoseBy}
use Rattle.hib_engines.specs.Origin.{Origin}
use Rattle.hib_split.specs.Alone.{IsToldBy}

pub none_fewer : (before n now : ℕ) → RoseBy before n now → RoseBy before 0 now
none_fewer before n now r = omega (arith, r)

pub told_fewer : (from : Origin) (l : Journal) (tables : Option Tables) (failed : ℕ) → IsToldBy from l tables failed → RoseBy from.faults 0 failed
told_fewer from l tables failed told = none_fewer from.faults _ failed told.faults
