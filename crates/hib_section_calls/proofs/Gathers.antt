-- What a run with collections comes to, and what its text says.
use Rattle.std.proofs.Common.{◌≡◌, ℕ, true, List, Ok, Err, refl, ◌∙◌, ap, subst}
use Rattle.std.specs.Prelude.{codes}
use Rattle.hib_base.specs.Valid.{is_valid}
use Rattle.hib_base.specs.declared.refusals.Refused.{Refused}
use Rattle.hib_journal.specs.Types.{Script}
use Rattle.hib_listeners.specs.Told.{Told}
use Rattle.hib_engines.specs.Origin.{Origin}
use Rattle.hib_collections_law.specs.declared.entries.Def.{Def}
use Rattle.hib_collections.specs.Run.{AreSet}
use Rattle.hib_input.specs.WithSection.{Sectioned, section_of}
use Rattle.hib_sections.specs.Collections.{AreFit, collections_of}
use Rattle.hib_call.specs.declared.tasks.Outcome.{Outcome}
use Rattle.hib_call.specs.Ends.{Comes}
use Rattle.hib_call.specs.Outside.{Shared}
use Rattle.hib_section_calls.specs.declared.collect.Gathering.{Gathering}
use Rattle.hib_section_calls.specs.declared.collect.Collected.{Collected}
use Rattle.hib_section_calls.specs.Collecting.{collecting, gathering_of, if_sectioned, with_collections}
use Rattle.hib_call.specs.Runs.{origin}
use Rattle.hib_call.proofs.Runs.{lent_named}

-- ---- what a text says
pub both_said : (text : List ℕ) (s : Sectioned) (ds : List Def) → section_of (codes "collections") text ≡ Ok s → collections_of s.script.mapping s.before.lines s.behind.lines ≡ Ok ds →
    gathering_of text ≡ Ok (s.script, ds)
both_said text s ds e d = ap if_sectioned e ∙ ap (with_collections s.script) d

pub no_section : (text : List ℕ) (r : Refused) → section_of (codes "collections") text ≡ Err r → gathering_of text ≡ Err r
no_section text r e = ap if_sectioned e

pub no_collections : (text : List ℕ) (s : Sectioned) (r : Refused) → section_of (codes "collections") text ≡ Ok s → collections_of s.script.mapping s.before.lines s.behind.lines ≡ Err r → gathering_of text ≡ Err r
no_collections text s r e d = ap if_sectioned e ∙ ap (with_collections s.script) d

pub are_set : (script : Script) (ds : List Def) → is_valid script ≡ true → AreFit script.mapping ds → AreSet script ds
are_set script ds v f = record { valid = v; few = f.few; versioned = f.versioned }

-- ---- a run of this name is over what is lent
abbrev ComesBy : Gathering → Shared → Shared → Outcome Collected → Type 0
ComesBy input old new outcome = Comes collecting input old new outcome

input_named : (input : Gathering) (script : Script) (defs : List Def) → input.script ≡ script → input.defs ≡ defs → ◌≡◌ {A = Gathering} (record { script = script; defs = defs }) input
input_named input script defs a b =
    subst (λ (s : Script). ◌≡◌ {A = Gathering} (record { script = s; defs = defs }) input) a
    (subst (λ (d : List Def). ◌≡◌ {A = Gathering} (record { script = input.script; defs = d }) input) b refl)

pub told_by : (input : Gathering) (script : Script) (defs : List Def) (from : Origin) (told : List Told) (old new : Shared) (outcome : Outcome Collected) → input.script ≡ script → input.defs ≡ defs →
    origin script old ≡ from → old.told ≡ told →
    ComesBy (record { script = script; defs = defs }) (record { tables = old.tables; faults = from.faults; asked = from.asked; told = told }) new outcome → ComesBy input old new outcome
told_by input script defs from told old new outcome a b o h c =
    subst (λ (i : Gathering). ComesBy i old new outcome) (input_named input script defs a b)
    (subst (λ (x : Shared). ComesBy (record { script = script; defs = defs }) x new outcome) (lent_named script from told old o h) c)
