-- What runs of several commands leave, and runs that don't begin.
use Rattle.std.specs.Prelude.{◌≡◌, ◌⊎◌, ◌+◌, ℕ, Bool, true, false, if◌then◌else◌, List}
use Rattle.hib_journal.specs.Types.{Script, Entry}
use Rattle.hib_listeners.specs.Heard.{HaveHeard}
use Rattle.hib_listeners.specs.Told.{Told}
use Rattle.hib_store.specs.declared.store.OpenFault.{OpenFault}
use Rattle.hib_engines.specs.Counts.{RoseBy}
use Rattle.hib_engines.specs.Origin.{Origin, origin_over}
use Rattle.hib_call.specs.declared.status.Status.{Status}
use Rattle.hib_call.specs.Outside.{Shared}

-- what a run begins with, over what is lent to it
abbrev pub origin : Script → Shared → Origin
origin script old = origin_over script old.tables old.faults old.asked

-- the listeners at the start of a run of these entries and those that are handed back: of the ones that tell, exactly those that
-- stay when they hear all entries, each with these after what it had heard. If memory ran out, one may have had none for the
-- last entry, so that from it on nobody has heard that
abbrev pub AreHandedBack : Bool → List Entry → List Told → List Told → Type 0
AreHandedBack false es start now = HaveHeard false es start now
AreHandedBack true es start now = HaveHeard false es start now ⊎ HaveHeard true es start now

-- how often a keeper is asked at most in a run whose entries ask it so often: if memory ran out once more, without an entry
abbrev pub most_asked : Bool → ℕ → ℕ
most_asked short n = if short then n + 1 else n

-- nothing was run, and no table has changed
pub record IsUnrun (old new : Shared) : Type 0 where
  pub tables : new.tables ≡ old.tables
  pub faults : RoseBy old.faults 0 new.faults
  pub asked : new.asked ≡ old.asked
  pub told : new.told ≡ old.told

-- how a call ends whose factory wasn't opened
abbrev pub opening_status : {K : Type 0} → OpenFault K → Status
opening_status (OpenFault.NoMemory k) = Status.NoMemory
opening_status (OpenFault.StoreFault k) = Status.StoreFault
