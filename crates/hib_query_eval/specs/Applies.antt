-- Whether a change applies to the row of its key.
use Rattle.std.specs.Prelude.{Bool, false, Some, None, Option, is_none}
use Rattle.hib_journal.specs.Types.{Row, Change}
use Rattle.hib_base.specs.Tables.{same_version}

abbrev pub applies : Change → Option Row → Bool
applies (Change.Insert k r) o = is_none o
applies (Change.Update k v r) None = false
applies (Change.Update k v r) (Some x) = same_version v x.version
applies (Change.Delete k v) None = false
applies (Change.Delete k v) (Some x) = same_version v x.version
