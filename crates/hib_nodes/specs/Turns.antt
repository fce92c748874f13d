-- What a turn makes ready.
use Rattle.std.specs.Prelude.{◌≡◌, Bool, true, false, List, []}
use Rattle.hib_journal.specs.Types.{Key, Script, Act, Reply, Commit}
use Rattle.hib_journal.specs.Sessions.{Journal, changes_in}
use Rattle.hib_session.specs.declared.session.Session.{Session}
use Rattle.hib_session.specs.Session.{Follows, number_of}
use Rattle.hib_nodes_law.specs.Nodes.{shared_keys}

-- the keys that come into the other node's queue if an act of a session with these entries is a commit that applies
abbrev pub keys_at : Script → Act → Journal → List Key
keys_at script Act.Commit mine = shared_keys script (changes_in mine)
keys_at script a mine = []

abbrev pub is_committed : Reply → Bool
is_committed (Reply.Commit Commit.Committed) = true
is_committed _ = false

-- a session that follows what it followed
pub record IsKept (script : Script) (y z : Session) : Type 0 where
  pub number : number_of z ≡ number_of y
  pub follows : (mine : Journal) → Follows script y mine → Follows script z mine
