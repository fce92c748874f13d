-- Journals with early ticks, to which a timeout can be added.
use Rattle.std.specs.Prelude.{◌≤◌, ◌^◌, [], ◌∷◌}
use Rattle.hib_journal.specs.Sessions.{Journal}

abbrev pub AreEarly : Journal → Type 0
AreEarly [] = Unit {0}
AreEarly (e ∷ h) = AreEarly h × (e.tick ≤ 2 ^ 61)
