-- What is made ready before the act that is due is done.
use Rattle.std.specs.Prelude.{◌≡◌, Bool, true, false, List, [], ◌∷◌, filter, map, Some, None, Option}
use Rattle.std.specs.Option.{is_some}
use Rattle.hib_journal.specs.Types.{Mode, Script, Act}
use Rattle.hib_journal.specs.Sessions.{Journal}
use Rattle.hib_journal.specs.Next.{completion}
use Rattle.hib_session.specs.declared.control.Stage.{Stage}
use Rattle.hib_session.specs.declared.ahead.Ending.{Ending}
use Rattle.hib_session.specs.declared.written.Written.{Written}
use Rattle.hib_base.specs.Tables.{row_left}
use Rattle.hib_session.specs.Memory.{has_copies, takes_room}

-- an act after a commit that was applied, if the transaction ends otherwise: a lock is given back without a row
abbrev pub refused_act : Act → Act
refused_act (Act.AfterUpdate k l r) = Act.Unlock k l
refused_act a = a

-- and no new row is put
abbrev pub is_kept : Act → Bool
is_kept (Act.AfterInsert k r f) = false
is_kept a = true

abbrev pub refused_of : List Act → List Act
refused_of acts = map refused_act (filter is_kept acts)

-- the acts are those that complete a transaction with these entries after a commit that was applied
abbrev pub Ends : Script → Mode → Journal → Option Ending → Type 0
Ends script m mine None = Unit {0}
Ends script m mine (Some e) = e.acts ≡ completion script m true mine

-- the copies are those of the first write that is queued
abbrev pub Copies : List Act → Option Written → Type 0
Copies acts None = Unit {0}
Copies acts (Some w) = ((rest : List Act) × (acts ≡ Act.Write w.change ∷ rest)) × (w.base ≡ row_left w.change)

-- the stages whose answers bring a row or a list
abbrev pub asks_rows : Stage → Bool
asks_rows (Stage.Loading k) = true
asks_rows (Stage.Listing q) = true
asks_rows _ = false

-- the acts that complete the transaction are there, if the stage ends it
abbrev pub has_ending : Stage → Option Ending → Bool
has_ending Stage.Committing e = is_some e
has_ending Stage.RollingBack e = is_some e
has_ending _ e = true

-- whether the entry of the next act must find room
abbrev pub needs_room : List Act → Bool
needs_room [] = false
needs_room (a ∷ acts) = takes_room a

-- what the entry of the next act needs is there
abbrev pub is_made : List Act → Stage → Option Written → Option Ending → Bool
is_made (a ∷ acts) stage w e = has_copies w a
is_made [] stage w e = has_ending stage e
