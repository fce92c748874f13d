-- The sessions of a run with collections, each with what is noted of it.
use Rattle.std.specs.Prelude.{◌≡◌, ℕ, List, length, slice_get, Some}
use Rattle.hib_journal.specs.Types.{Script}
use Rattle.hib_journal.specs.Sessions.{own}
use Rattle.hib_session.specs.Session.{Follows, number_of}
use Rattle.hib_collections_law.specs.Types.{Gathered}
use Rattle.hib_collections_law.specs.Gathered.{mine, plain}
use Rattle.hib_collections.specs.Notes.{AreNoted}
use Rattle.hib_collections.specs.declared.members.Gatherer.{Gatherer}

-- a session has come as far as its plain entries, and what is noted of it is what its entries say
pub record IsGatherer (script : Script) (g : Gathered) (s : ℕ) (y : Gatherer) : Type 0 where
  pub number : number_of y.session ≡ s
  pub follows : Follows script y.session (own s (plain script g))
  pub noted : AreNoted y.notes (mine s g)

pub record AreGatherers (script : Script) (g : Gathered) (ys : List Gatherer) : Type 0 where
  pub all : length ys ≡ length script.sessions
  pub each : (s : ℕ) (y : Gatherer) → slice_get ys s ≡ Some y → IsGatherer script g s y
