-- What comes before an act that is due in a session.
use Rattle.std.specs.Prelude.{◌≡◌, Option, option_and_then}
use Rattle.hib_journal.specs.Types.{Key, Row, Change, Act}
use Rattle.hib_journal.specs.Sessions.{Journal, time_in, floor_in}
use Rattle.hib_journal.specs.Held.{held}
use Rattle.hib_collections_law.specs.declared.entries.MemberAct.{MemberAct}
use Rattle.hib_collections_law.specs.Gathered.{Due, known}
use Rattle.hib_collections.specs.declared.before.Before.{Before}

-- the row of a key that a session has read or written last, if it holds the key
abbrev pub base_in : Journal → Key → Option Row
base_in mine k = option_and_then (λ i. i.base) (held mine k)

-- what a session holds of a row that it is to update or delete is the last that its entries tell of it
abbrev pub IsKnown : Journal → Act → Type 0
IsKnown mine (Act.Write (Change.Update k v r)) = base_in mine k ≡ known k mine
IsKnown mine (Act.Write (Change.Delete k v)) = base_in mine k ≡ known k mine
IsKnown mine _ = Unit {0}

-- what is due then
abbrev pub due_by : Before → Act → Journal → Due
due_by Before.Nothing a mine = Due.Plain a
due_by (Before.Get p) a mine = Due.Member p (MemberAct.Get (time_in mine))
due_by (Before.Lock p) a mine = Due.Member p (MemberAct.Lock (floor_in mine))
due_by (Before.Unlock p i) a mine = Due.Member p (MemberAct.Unlock i)
