-- The sessions of a script, each with its number.
use Rattle.std.specs.Prelude.{◌≡◌, ◌<◌, ℕ, false, List, length, slice_get, Some}
use Rattle.hib_journal.specs.Types.{Script}
use Rattle.hib_journal.specs.Sessions.{Journal, own, was_killed}
use Rattle.hib_journal.specs.Played.{has_next}
use Rattle.hib_session.specs.declared.session.Session.{Session}
use Rattle.hib_session.specs.Session.{Follows, number_of, is_killed}

-- each is killed if the journal says so, and else as far as its own entries
pub record AreSessions (script : Script) (h : Journal) (sessions : List Session) : Type 0 where
  pub all : length sessions ≡ length script.sessions
  pub numbers : (s : ℕ) (y : Session) → slice_get sessions s ≡ Some y → number_of y ≡ s
  pub killed : (s : ℕ) (y : Session) → slice_get sessions s ≡ Some y → is_killed y ≡ was_killed s h
  pub follow : (s : ℕ) (y : Session) → slice_get sessions s ≡ Some y → was_killed s h ≡ false → Follows script y (own s h)

-- every session is at its end, or was killed
abbrev pub AreOver : Script → Journal → Type 0
AreOver script h = (s : ℕ) → s < length script.sessions → has_next script h s ≡ false
