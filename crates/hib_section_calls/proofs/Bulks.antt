-- What a run with bulk changes comes to, and what its text says.
use Rattle.std.proofs.Common.{◌≡◌, ℕ, true, List, Ok, Err, refl, ◌∙◌, ap, subst}
use Rattle.std.specs.Prelude.{codes, map}
use Rattle.hib_base.specs.Valid.{is_valid}
use Rattle.hib_base.specs.declared.refusals.Refused.{Refused}
use Rattle.hib_base.specs.declared.scripts.Order.{Order}
use Rattle.hib_journal.specs.Types.{Script}
use Rattle.hib_engines.specs.Origin.{Origin}
use Rattle.hib_bulk_law.specs.declared.bulks.BulkDef.{BulkDef}
use Rattle.hib_bulk_law.specs.declared.bulks.Bulks.{Bulks}
use Rattle.hib_bulk.specs.Run.{AreSet}
use Rattle.hib_input.specs.WithSection.{Sectioned, section_of}
use Rattle.hib_sections.specs.BulkLines.{said_of}
use Rattle.hib_sections.specs.Bulks.{AreFit, bulks_of}
use Rattle.hib_call.specs.declared.tasks.Outcome.{Outcome}
use Rattle.hib_call.specs.Ends.{Comes}
use Rattle.hib_call.specs.Outside.{Shared}
use Rattle.hib_section_calls.specs.declared.bulk.Bulking.{Bulking}
use Rattle.hib_section_calls.specs.declared.bulk.BulkRun.{BulkRun}
use Rattle.hib_section_calls.specs.Bulking.{bulking, bulking_of, if_sectioned, with_bulks}
use Rattle.hib_call.specs.Runs.{origin}
use Rattle.hib_call.proofs.Runs.{lent_named}

-- ---- what a text says
pub both_said : (text : List ℕ) (s : Sectioned) (ds : List BulkDef) (os : List Order) → section_of (codes "bulk") text ≡ Ok s →
    bulks_of s.script.mapping s.script.sessions s.before.lines s.behind ≡ Ok (map said_of ds, os) → bulking_of text ≡ Ok (s.script, (map said_of ds, os))
both_said text s ds os e d = ap if_sectioned e ∙ ap (with_bulks s.script) d

pub no_section : (text : List ℕ) (r : Refused) → section_of (codes "bulk") text ≡ Err r → bulking_of text ≡ Err r
no_section text r e = ap if_sectioned e

pub no_bulks : (text : List ℕ) (s : Sectioned) (r : Refused) → section_of (codes "bulk") text ≡ Ok s → bulks_of s.script.mapping s.script.sessions s.before.lines s.behind ≡ Err r → bulking_of text ≡ Err r
no_bulks text s r e d = ap if_sectioned e ∙ ap (with_bulks s.script) d

pub are_set : (script : Script) (ds : List BulkDef) → is_valid script ≡ true → AreFit script.mapping ds → AreSet script ds
are_set script ds v f = record { valid = v; few = f.few; strategies = f.strategies; below = f.below }

-- ---- a run of this name is over what is lent
abbrev ComesBy : Bulking → Shared → Shared → Outcome BulkRun → Type 0
ComesBy input old new outcome = Comes bulking input old new outcome

input_named : (input : Bulking) (script : Script) (lines : List BulkDef) (orders : List Order) → input.script ≡ script → input.bulks.lines ≡ lines → input.bulks.orders ≡ orders →
    ◌≡◌ {A = Bulking} (record { script = script; bulks = record { lines = lines; orders = orders } }) input
input_named input script lines orders a b c =
    subst (λ (s : Script). ◌≡◌ {A = Bulking} (record { script = s; bulks = record { lines = lines; orders = orders } }) input) a
    (subst (λ (d : List BulkDef). ◌≡◌ {A = Bulking} (record { script = input.script; bulks = record { lines = d; orders = orders } }) input) b
    (subst (λ (o : List Order). ◌≡◌ {A = Bulking} (record { script = input.script; bulks = record { lines = input.bulks.lines; orders = o } }) input) c refl))

pub told_by : (input : Bulking) (script : Script) (lines : List BulkDef) (orders : List Order) (from : Origin) (old new : Shared) (outcome : Outcome BulkRun) → input.script ≡ script →
    input.bulks.lines ≡ lines → input.bulks.orders ≡ orders → origin script old ≡ from →
    ComesBy (record { script = script; bulks = record { lines = lines; orders = orders } }) (record { tables = old.tables; faults = from.faults; asked = from.asked; told = old.told }) new outcome →
    ComesBy input old new outcome
told_by input script lines orders from old new outcome a b d o c =
    subst (λ (i : Bulking). ComesBy i old new outcome) (input_named input script lines orders a b d)
    (subst (λ (x : Shared). ComesBy (record { script = script; bulks = record { lines = lines; orders = orders } }) x new outcome) (lent_named script from old.told old o refl) c)

-- the lines and the orders that were read are those of this name
pub bulks_named : (bulks : Bulks) (lines : List BulkDef) (orders : List Order) → bulks.lines ≡ lines → bulks.orders ≡ orders → ◌≡◌ {A = Bulks} bulks (record { lines = lines; orders = orders })
bulks_named bulks lines orders a b =
    subst (λ (l : List BulkDef). ◌≡◌ {A = Bulks} bulks (record { lines = l; orders = orders })) a
    (subst (λ (o : List Order). ◌≡◌ {A = Bulks} bulks (record { lines = bulks.lines; orders = o })) b refl)
