-- What a run comes to.
use Rattle.std.proofs.Common.{◌≡◌, ◌≤◌, ℕ, true, false, List, Some, None, refl, sym, ◌∙◌, subst}
use Rattle.hib_journal.specs.Types.{Script}
use Rattle.hib_listeners.specs.Told.{Told}
use Rattle.hib_outside.specs.Causes.{Rose}
use Rattle.hib_journal.specs.Kept.{past}
use Rattle.hib_core.specs.Standing.{Origin, RoseBy, told_start}
use Rattle.hib_merge.specs.declared.tearing.Torn.{Torn}
use Rattle.hib_store.specs.Stores.{is_store_fault}
use Rattle.hib_store.specs.declared.store.OpenFault.{OpenFault}
use Rattle.hib_call.specs.declared.status.Status.{Status}
use Rattle.hib_call.specs.declared.tasks.Outcome.{Outcome}
use Rattle.hib_call.specs.Ends.{Comes}
use Rattle.hib_call.specs.Outside.{Shared}
use Rattle.hib_top.specs.declared.telling.Played.{Played}
use Rattle.hib_top.specs.declared.telling.Telling.{Telling}
use Rattle.hib_top.specs.declared.turns.Turns.{Turns}
use Rattle.hib_call.specs.Runs.{IsUnrun, opening_status, origin}
use Rattle.hib_call.proofs.Runs.{lent_named, not_fault}
use Rattle.hib_top.specs.Running.{IsFinished, IsRun, running}

-- ---- of the run of a script
abbrev ComesBy : Turns → Script → Shared → Shared → Outcome Played → Type 0
ComesBy turns script old new outcome = Comes (running turns Telling.Report) script old new outcome

pub over : (turns : Turns) (script : Script) (old new : Shared) (run : Played) (outcome : Outcome Played) → outcome ≡ Outcome.Over run → IsRun turns false script old new run → IsFinished turns script (past run.journal) →
    ComesBy turns script old new outcome
over turns script old new run outcome e r f = subst (ComesBy turns script old new) (sym e) (r, f)

pub torn_not_fault : (torn : Torn) → Status.Torn torn ≡ Status.StoreFault → ⊥
torn_not_fault torn e = cc

pub stopped : (turns : Turns) (script : Script) (old new : Shared) (run : Played) (outcome : Outcome Played) → outcome ≡ Outcome.Stopped Status.NoMemory (Some run) → IsRun turns true script old new run →
    ComesBy turns script old new outcome
stopped Turns.Scheduled script old new run outcome e r = subst (ComesBy Turns.Scheduled script old new) (sym e) (r, tt, λ p. absurd (not_fault p))
stopped (Turns.OnWorkers n) script old new run outcome e r = subst (ComesBy (Turns.OnWorkers n) script old new) (sym e) (r, tt, λ p. absurd (not_fault p))
stopped (Turns.OnParts n) script old new run outcome e r = subst (ComesBy (Turns.OnParts n) script old new) (sym e) (r, tt, λ p. absurd (not_fault p))

-- of a run over parts nothing is there
pub lost : (n : ℕ) (script : Script) (old new : Shared) (outcome : Outcome Played) → outcome ≡ Outcome.Stopped Status.NoMemory None → RoseBy old.faults 0 new.faults → ComesBy (Turns.OnParts n) script old new outcome
lost n script old new outcome e r = subst (ComesBy (Turns.OnParts n) script old new) (sym e) (r, tt, λ p. absurd (not_fault p))

-- a run that is over, or that memory ran out in, is told as no other
pub over_not_torn : (run : Played) (t : Torn) (outcome : Outcome Played) → outcome ≡ Outcome.Over run → outcome ≡ Outcome.Stopped (Status.Torn t) None → ⊥
over_not_torn run t outcome p q = cc

pub short_not_torn : (t : Torn) (outcome : Outcome Played) → outcome ≡ Outcome.Stopped Status.NoMemory None → outcome ≡ Outcome.Stopped (Status.Torn t) None → ⊥
short_not_torn t outcome p q = torn_not_short t (stopped_same (sym p ∙ q))
  where
    stopped_same : {a b : Status} → ◌≡◌ {A = Outcome Played} (Outcome.Stopped a None) (Outcome.Stopped b None) → a ≡ b
    stopped_same e = cc

    torn_not_short : (t : Torn) → Status.NoMemory ≡ Status.Torn t → ⊥
    torn_not_short t e = cc

-- a factory wasn't opened
unopened_by : {K : Type 0} (turns : Turns) (script : Script) (old new : Shared) (fault : OpenFault K) → IsUnrun old new → (is_store_fault fault ≡ true → Rose old.faults new.faults) →
    ComesBy turns script old new (Outcome.Stopped (opening_status fault) None)
unopened_by Turns.Scheduled script old new (OpenFault.NoMemory k) u r = (u, tt, λ p. absurd (not_fault p))
unopened_by (Turns.OnWorkers n) script old new (OpenFault.NoMemory k) u r = (u, tt, λ p. absurd (not_fault p))
unopened_by (Turns.OnParts n) script old new (OpenFault.NoMemory k) u r = (u.faults, tt, λ p. absurd (not_fault p))
unopened_by Turns.Scheduled script old new (OpenFault.StoreFault k) u r = (u, tt, λ p. r refl)
unopened_by (Turns.OnWorkers n) script old new (OpenFault.StoreFault k) u r = (u, tt, λ p. r refl)
unopened_by (Turns.OnParts n) script old new (OpenFault.StoreFault k) u r = (u, tt, λ p. r refl)

pub unopened : {K : Type 0} (turns : Turns) (script : Script) (old new : Shared) (fault : OpenFault K) (outcome : Outcome Played) → outcome ≡ Outcome.Stopped (opening_status fault) None → IsUnrun old new →
    (is_store_fault fault ≡ true → Rose old.faults new.faults) → ComesBy turns script old new outcome
unopened turns script old new fault outcome e u r = subst (ComesBy turns script old new) (sym e) (unopened_by turns script old new fault u r)

-- ---- a run of this name is over what is lent
pub told_by : (turns : Turns) (script : Script) (from : Origin) (told : List Told) (old new : Shared) (outcome : Outcome Played) → origin script old ≡ from → old.told ≡ told →
    ComesBy turns script (record { tables = old.tables; faults = from.faults; asked = from.asked; told = told }) new outcome → ComesBy turns script old new outcome
told_by turns script from told old new outcome o h c = subst (λ (x : Shared). ComesBy turns script x new outcome) (lent_named script from told old o h) c
