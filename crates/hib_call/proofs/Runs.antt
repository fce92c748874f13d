-- What runs of several commands come to.
use Rattle.std.proofs.Common.{◌≡◌, ◌⊎◌, ◌+◌, ℕ, Bool, true, false, List, Some, refl, sym, subst, inl, inr, arith}
use Rattle.hib_journal.specs.Types.{Script, Entry}
use Rattle.hib_listeners.specs.Heard.{HaveHeard}
use Rattle.hib_listeners.specs.Told.{Told}
use Rattle.hib_engines.specs.Counts.{RoseBy, RoseWithin}
use Rattle.hib_engines.specs.Origin.{Origin}
use Rattle.hib_call.specs.declared.status.Status.{Status}
use Rattle.hib_call.specs.declared.tasks.Outcome.{Outcome}
use Rattle.hib_call.specs.Command as Calls
use Rattle.hib_call.specs.Ends.{Comes}
use Rattle.hib_call.specs.Outside.{Shared}
use Rattle.hib_call.specs.Runs.{origin}

pub not_fault : Status.NoMemory ≡ Status.StoreFault → ⊥
not_fault e = cc

-- a run came to its end
pub run_over : {I R : Type 0} (command : Calls.Command I R) (input : I) (old new : Shared) (run : R) (outcome : Outcome R) → outcome ≡ Outcome.Over run → command.leaves input old new run →
    Comes command input old new outcome
run_over command input old new run outcome e l = subst (Comes command input old new) (sym e) l

-- memory ran out in it
pub run_stopped : {I R : Type 0} (command : Calls.Command I R) (input : I) (old new : Shared) (run : R) (outcome : Outcome R) → outcome ≡ Outcome.Stopped Status.NoMemory (Some run) →
    command.stops input old new Status.NoMemory (Some run) → Comes command input old new outcome
run_stopped command input old new run outcome e r = subst (Comes command input old new) (sym e) (r, tt, λ p. absurd (not_fault p))

-- ---- who has heard of it
pub heard_either : (short : Bool) (es : List Entry) (start now : List Told) → HaveHeard short es start now → HaveHeard false es start now ⊎ HaveHeard true es start now
heard_either false es start now h = inl h
heard_either true es start now h = inr h

-- ---- counts
-- what a run says that was asked once more, of what it hands back
pub once_more : {J : Type 0} (count : J → ℕ) (before asked now : ℕ) (made kept : J) → now ≡ asked → kept ≡ made → RoseWithin before (count made + 1) asked → RoseWithin before (count kept + 1) now
once_more count before asked now made kept a k r =
    subst (λ j. RoseWithin before (count j + 1) now) (sym k) (subst (λ (n : ℕ). RoseWithin before (count made + 1) n) (sym a) r)

pub none_failed : (before n now : ℕ) → RoseBy before n now → RoseBy before 0 now
none_failed before n now r = omega (arith, r)

-- ---- a run of this name is over what is lent
pub lent_named : (script : Script) (from : Origin) (told : List Told) (old : Shared) → origin script old ≡ from → old.told ≡ told →
    ◌≡◌ {A = Shared} (record { tables = old.tables; faults = from.faults; asked = from.asked; told = told }) old
lent_named script from told old o h =
    subst (λ (x : Origin). ◌≡◌ {A = Shared} (record { tables = old.tables; faults = x.faults; asked = x.asked; told = told }) old) o
    (subst (λ (ts : List Told). ◌≡◌ {A = Shared} (record { tables = old.tables; faults = old.faults; asked = old.asked; told = ts }) old) h refl)
