-- What a run at two nodes comes to, and what its text says.
use Rattle.std.proofs.Common.{◌≡◌, ℕ, true, List, Ok, Err, refl, ◌∙◌, ap, subst}
use Rattle.std.specs.Prelude.{codes}
use Rattle.hib_base.specs.Valid.{is_valid}
use Rattle.hib_base.specs.declared.refusals.Refused.{Refused}
use Rattle.hib_journal.specs.Types.{Script}
use Rattle.hib_engines.specs.Origin.{Origin}
use Rattle.hib_nodes_law.specs.declared.nodes.NodeOrder.{NodeOrder}
use Rattle.hib_nodes_law.specs.declared.nodes.Places.{Places as Said}
use Rattle.hib_nodes_law.specs.Types.{Nodings}
use Rattle.hib_nodes.specs.Run.{AreSet}
use Rattle.hib_input.specs.WithSection.{Sectioned, section_of}
use Rattle.hib_sections.specs.Places.{AreFit, places_of}
use Rattle.hib_call.specs.declared.tasks.Outcome.{Outcome}
use Rattle.hib_call.specs.Ends.{Comes}
use Rattle.hib_call.specs.Outside.{Shared}
use Rattle.hib_section_calls.specs.declared.nodes.Placing.{Placing}
use Rattle.hib_section_calls.specs.declared.nodes.NodeRun.{NodeRun}
use Rattle.hib_section_calls.specs.Placing.{if_sectioned, placing, placing_of, with_places}
use Rattle.hib_call.specs.Runs.{origin}
use Rattle.hib_call.proofs.Runs.{lent_named}

-- ---- what a text says
pub both_said : (text : List ℕ) (s : Sectioned) (ps : Nodings) (os : List NodeOrder) → section_of (codes "nodes") text ≡ Ok s →
    places_of s.script.mapping s.script.sessions s.before.lines s.behind ≡ Ok (ps, os) → placing_of text ≡ Ok (s.script, (ps, os))
both_said text s ps os e d = ap if_sectioned e ∙ ap (with_places s.script) d

pub no_section : (text : List ℕ) (r : Refused) → section_of (codes "nodes") text ≡ Err r → placing_of text ≡ Err r
no_section text r e = ap if_sectioned e

pub no_places : (text : List ℕ) (s : Sectioned) (r : Refused) → section_of (codes "nodes") text ≡ Ok s → places_of s.script.mapping s.script.sessions s.before.lines s.behind ≡ Err r → placing_of text ≡ Err r
no_places text s r e d = ap if_sectioned e ∙ ap (with_places s.script) d

pub are_set : (script : Script) (ps : Nodings) (os : List NodeOrder) → is_valid script ≡ true → AreFit script.mapping script.sessions ps os → AreSet script ps
are_set script ps os v f = record { valid = v; nodes = f.nodes }

-- ---- a run of this name is over what is lent
abbrev ComesBy : Placing → Shared → Shared → Outcome NodeRun → Type 0
ComesBy input old new outcome = Comes placing input old new outcome

input_named : (input : Placing) (script : Script) (nodes : Nodings) (orders : List NodeOrder) → input.script ≡ script → input.places.nodes ≡ nodes → input.places.orders ≡ orders →
    ◌≡◌ {A = Placing} (record { script = script; places = record { nodes = nodes; orders = orders } }) input
input_named input script nodes orders a b c =
    subst (λ (s : Script). ◌≡◌ {A = Placing} (record { script = s; places = record { nodes = nodes; orders = orders } }) input) a
    (subst (λ (d : Nodings). ◌≡◌ {A = Placing} (record { script = input.script; places = record { nodes = d; orders = orders } }) input) b
    (subst (λ (o : List NodeOrder). ◌≡◌ {A = Placing} (record { script = input.script; places = record { nodes = input.places.nodes; orders = o } }) input) c refl))

pub told_by : (input : Placing) (script : Script) (nodes : Nodings) (orders : List NodeOrder) (from : Origin) (old new : Shared) (outcome : Outcome NodeRun) → input.script ≡ script →
    input.places.nodes ≡ nodes → input.places.orders ≡ orders → origin script old ≡ from →
    ComesBy (record { script = script; places = record { nodes = nodes; orders = orders } }) (record { tables = old.tables; faults = from.faults; asked = from.asked; told = old.told }) new outcome →
    ComesBy input old new outcome
told_by input script nodes orders from old new outcome a b d o c =
    subst (λ (i : Placing). ComesBy i old new outcome) (input_named input script nodes orders a b d)
    (subst (λ (x : Shared). ComesBy (record { script = script; places = record { nodes = nodes; orders = orders } }) x new outcome) (lent_named script from old.told old o refl) c)

-- the places and the orders that were read are those of this name
pub places_named : (places : Said) (nodes : Nodings) (orders : List NodeOrder) → places.nodes ≡ nodes → places.orders ≡ orders → ◌≡◌ {A = Said} places (record { nodes = nodes; orders = orders })
places_named places nodes orders a b =
    subst (λ (l : Nodings). ◌≡◌ {A = Said} places (record { nodes = l; orders = orders })) a
    (subst (λ (o : List NodeOrder). ◌≡◌ {A = Said} places (record { nodes = places.nodes; orders = o })) b refl)
