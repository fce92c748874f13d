-- The change that is pending of one instance.
use Rattle.std.specs.Prelude.{Option}
use Rattle.hib_journal.specs.Types.{Key, Row, Change, State, Held}
use Rattle.hib_journal.specs.Held.{insert_by, update_by, delete_by}

abbrev pub change_by : State → Key → Row → Option Row → Option Change
change_by State.New k r b = insert_by State.New k r
change_by State.Managed k r b = update_by State.Managed k r b
change_by State.Removed k r b = delete_by State.Removed k b

-- an insert of a new one, an update of a managed one whose cells differ from those of its base, a delete of a removed one
abbrev pub change_of : Key → Held → Option Change
change_of k h = change_by h.state k h.row h.base

abbrev pub insert_of : Key → Held → Option Change
insert_of k h = insert_by h.state k h.row

abbrev pub update_of : Key → Held → Option Change
update_of k h = update_by h.state k h.row h.base

abbrev pub delete_of : Key → Held → Option Change
delete_of k h = delete_by h.state k h.base
