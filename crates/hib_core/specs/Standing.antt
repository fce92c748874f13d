-- What a factory is opened with, and its next entries.
use Rattle.std.specs.Prelude.{ℕ, ◌+◌, length, Some, None}
use Rattle.hib_journal.specs.Types.{Act, Reply, Entry}
use Rattle.hib_journal.specs.Sessions.{Journal}
use Rattle.hib_journal.specs.Lists.{entry_at}
pub use Rattle.hib_engines.specs.Counts.{RoseBy, RoseWithin}
pub use Rattle.hib_engines.specs.Origin.{Origin, told_start, origin_over}

-- the next entry of a session
abbrev pub entry_of : Journal → ℕ → Act → Reply → Entry
entry_of h s a r = entry_at (length h + 1) (Some s) a r

-- the next entry of an act from outside of the sessions
abbrev pub outside_entry : Journal → Act → Reply → Entry
outside_entry h a r = entry_at (length h + 1) None a r
