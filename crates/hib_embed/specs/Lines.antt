-- The line that is said of a call.
use Rattle.std.specs.Prelude.{◌≡◌, ◌≢◌, ℕ, ◌+◌, ◌-◌, ◌^◌, ◌++◌, List, [], codes, min}
use Rattle.std.specs.Fmt.{decimal}
use Rattle.hib_call.specs.declared.status.Status.{Status}
use Rattle.hib_call.specs.StatusLine.{status_text}
use Rattle.hib_toolbox.specs.declared.ended.Said.{Said}

-- none if all was done, and else the program's own
pub record IsLineOf (ended : Status) (line : List ℕ) : Type 0 where
  pub done : ended ≡ Status.Done → line ≡ []
  pub other : ended ≢ Status.Done → line ≡ status_text ended

-- what is said of a call of the tools beside that; entries are numbered from 1
abbrev pub said_text : Said → List ℕ
said_text Said.Nothing = []
said_text Said.Found = []
said_text Said.Missing = codes "hib: there is no such finding\n"
said_text (Said.Foreign place) =
    codes "hib: no schedule repeats entry " ++ decimal (min (place + 1) (2 ^ 64 - 1)) ++ codes ", an eviction or a restart\n"
said_text Said.Long = codes "hib: the script with the schedule has too many lines, or too long ones\n"

-- it stands in the place of the other line
abbrev pub IsSaidLine : Status → Said → List ℕ → Type 0
IsSaidLine ended Said.Nothing line = IsLineOf ended line
IsSaidLine ended said line = line ≡ said_text said
