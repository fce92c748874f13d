-- At each point of a journal.
use Rattle.std.specs.Prelude.{[], ◌∷◌}
use Rattle.hib_journal.specs.Types.{Entry}
use Rattle.hib_journal.specs.Sessions.{Journal}

-- at each prefix of a journal, the empty one and the whole among them
abbrev pub AtEachPrefix : (Journal → Type 0) → Journal → Type 0
AtEachPrefix P [] = P []
AtEachPrefix P (e ∷ h) = P (e ∷ h) × AtEachPrefix P h

-- at each entry, over the journal before it
abbrev pub AtEachEntry : (Journal → Entry → Type 0) → Journal → Type 0
AtEachEntry P [] = Unit {0}
AtEachEntry P (e ∷ h) = P h e × AtEachEntry P h
