-- The sessions with which a journal is followed.
use Rattle.std.specs.Prelude.{◌≡◌, ℕ, false, List, length, slice_get, Some}
use Rattle.hib_journal.specs.Types.{Script}
use Rattle.hib_journal.specs.Sessions.{Journal, own, was_killed}
use Rattle.hib_session.specs.declared.session.Session.{Session}
use Rattle.hib_session.specs.Session.{Follows, number_of}

-- each as far as its own entries, unless it was killed
pub record AreSeats (script : Script) (h : Journal) (ys : List Session) : Type 0 where
  pub all : length ys ≡ length script.sessions
  pub numbers : (s : ℕ) (y : Session) → slice_get ys s ≡ Some y → number_of y ≡ s
  pub follow : (s : ℕ) (y : Session) → slice_get ys s ≡ Some y → was_killed s h ≡ false → Follows script y (own s h)
