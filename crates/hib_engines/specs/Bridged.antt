-- What the store's list of changes says beside the sessions' own.
use Rattle.std.specs.Prelude.{◌≡◌, ℕ, false, if◌then◌else◌, []}
use Rattle.hib_base.specs.Tables.{Tables}
use Rattle.hib_journal.specs.Sessions.{Journal, own, is_open, was_killed, deferred, committed}
use Rattle.hib_journal.specs.Lists.{unsaved, stored}

-- what the store stores and defers is what the sessions commit and write; a session that is closed has nothing deferred
pub record IsBridged (h : Journal) : Type 0 where
  pub rows : (start : Tables) → stored start h ≡ committed start h
  pub changes : (n : ℕ) → unsaved n h ≡ (if was_killed n h then [] else deferred (own n h))
  pub closed : (n : ℕ) → was_killed n h ≡ false → is_open n h ≡ false → deferred (own n h) ≡ []
