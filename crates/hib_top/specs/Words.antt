-- What words ask for.
use Rattle.std.specs.Prelude.{◌≤◌, Bool, true, false, if◌then◌else◌, ⊤, List, map, Option, Some, None, option_and_then}
use Rattle.std.specs.String.{string_bytes}
use Rattle.std.specs.declared.string.String.{String}
use Rattle.std.specs.declared.alloc.Global.{Global}
use Rattle.hib_words.specs.Commands.{Asked, work, command, max_workers}
use Rattle.hib_top.specs.declared.telling.Telling.{Telling}

-- what they ask for; none if they have no form
unfoldable pub asked_in : List (String Global) → Option Asked
asked_in words = command (map string_bytes words)

-- it is done without threads
abbrev pub is_alone : Asked → Bool
is_alone (work n split s) = false
is_alone asked = true

abbrev pub if_alone : Asked → Option Asked
if_alone asked = if is_alone asked then Some asked else None

-- what they ask for without threads
unfoldable pub asked_alone : List (String Global) → Option Asked
asked_alone words = option_and_then if_alone (asked_in words)

-- there is a worker at least, and no more than there may be
abbrev pub HasFew : Asked → Type 0
HasFew (work n split s) = (1 ≤ n) × (n ≤ max_workers)
HasFew asked = ⊤

-- a run is told by its journal as JSON lines if that is asked for, and else by its report
abbrev pub telling_of : Bool → Telling
telling_of journal = if journal then Telling.JsonLines else Telling.Report
