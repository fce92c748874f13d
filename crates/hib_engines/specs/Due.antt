-- What an engine wants to know of an act that is due, by the entries of its session.
use Rattle.std.specs.Prelude.{◌≡◌, ℕ, ◌<◌, true, false, [], length}
use Rattle.hib_journal.specs.Types.{Script, Act}
use Rattle.hib_journal.specs.Sessions.{Journal, is_begun, changes_in, deferred}
use Rattle.hib_journal.specs.Held.{is_begin}
use Rattle.hib_journal.specs.Next.{strategy}
use Rattle.hib_journal.specs.Legal.{is_outside}
use Rattle.hib_journal.specs.Due.{is_asked}
use Rattle.hib_engines.specs.Region.{acts_on, Suits}
use Rattle.hib_engines.specs.Served.{AreWithin, HasQuery}

-- a session asks queries of the script alone
abbrev pub HasQueries : Script → Type 0
HasQueries script = (s q : ℕ) → is_asked script s q ≡ true → q < length script.queries

-- the store's list is that of the transaction
abbrev pub AreStored : Journal → Act → Type 0
AreStored mine (Act.Load k) = deferred mine ≡ changes_in mine
AreStored mine (Act.List q) = deferred mine ≡ changes_in mine
AreStored mine Act.Commit = deferred mine ≡ changes_in mine
AreStored mine _ = Unit {0}

-- what is known of the act that is due in a session with these entries
pub record IsDue (script : Script) (mine : Journal) (a : Act) : Type 0 where
  pub begins : is_begin a ≡ true → is_begun mine ≡ false
  pub within : is_begin a ≡ false → is_begun mine ≡ true
  pub ends : a ≡ Act.End → deferred mine ≡ []
  pub stored : AreStored mine a
  pub known : AreWithin (length script.mapping) a
  pub suits : Suits (strategy script (acts_on a)) a
  pub inside : is_outside a ≡ false
  pub query : HasQuery script a
