use Rattle.std.proofs.Common.{◌≡◌, ◌^◌, get_or, map, Some, None, ap, sym, ◌∙◌, subst, arith}
use Rattle.std.specs.Prelude.{slice_set}
use Rattle.hib_journal.specs.Slot.{key_in}
use Rattle.hib_listeners.specs.Places.{place_in, IsIndex, entities}
use Rattle.hib_listeners.specs.Statistics.{noted_region}
use Rattle.hib_listeners.proofs.Places.{place_within, place_here, place_below, noted_at, noted_nowhere, same_entities}
use Rattle.hib_listeners.proofs.regions.RegionList.note.Goals as goal

pub index_mut-requires : goal.index_mut-requires
index_mut-requires c =
    let named : place_in c.self.inside.index.items (key_in c.args.entry.now.act) ≡ Some c.in-Some.at = cc in
    let within = place_within c.self.inside.index.items c.self.inside.places.items c.args.entry.now c.in-Some.at c.self.invariant named in
    omega arith

pub note-requires-clause-below : goal.note-requires-clause-below
note-requires-clause-below c =
    let named : place_in c.self.inside.index.items (key_in c.args.entry.now.act) ≡ Some c.in-Some.at = cc in
    place_below c.self.inside.index.items c.self.inside.places.items c.args.self.now c.args.entry.now c.in-Some.at (2 ^ 62) c.index_mut.result.now c.self.invariant named
    c.index_mut.ensures.value c.self.view_is c.requires

pub note-requires-clause-here : goal.note-requires-clause-here
note-requires-clause-here c =
    let named : place_in c.self.inside.index.items (key_in c.args.entry.now.act) ≡ Some c.in-Some.at = cc in
    place_here c.self.inside.index.items c.self.inside.places.items c.args.entry.now c.in-Some.at c.index_mut.result.now c.self.invariant named c.index_mut.ensures.value

pub returns-in-Some : goal.returns-in-Some
returns-in-Some c =
    let named : place_in c.self.inside.index.items (key_in c.args.entry.now.act) ≡ Some c.in-Some.at = cc in
    let all = noted_at c.self.inside.index.items c.self.inside.places.items c.args.entry.now c.in-Some.at c.index_mut.result.now c.self.invariant named in
    let one : c.note.new.self ≡ noted_region c.args.entry.now (get_or c.self.inside.places.items c.in-Some.at c.index_mut.result.now) = cc in
    rw one (all ∙ ap (λ cs. map (noted_region c.args.entry.now) cs) c.self.view_is)

pub invariant_of-self : goal.invariant_of-self
invariant_of-self c =
    let named : place_in c.self.inside.index.items (key_in c.args.entry.now.act) ≡ Some c.in-Some.at = cc in
    let all = noted_at c.self.inside.index.items c.self.inside.places.items c.args.entry.now c.in-Some.at c.index_mut.result.now c.self.invariant named in
    let one : c.note.new.self ≡ noted_region c.args.entry.now (get_or c.self.inside.places.items c.in-Some.at c.index_mut.result.now) = cc in
    let same : slice_set c.self.inside.places.items c.in-Some.at c.note.new.self ≡ map (noted_region c.args.entry.now) c.self.inside.places.items = rw one all in
    subst (λ ns. IsIndex c.self.inside.index.items ns) (sym (ap entities same ∙ same_entities c.args.entry.now c.self.inside.places.items)) c.self.invariant

pub returns-in_default : goal.returns-in_default
returns-in_default c =
    let unnamed : place_in c.self.inside.index.items (key_in c.args.entry.now.act) ≡ None = cc in
    let same = noted_nowhere c.self.inside.index.items c.self.inside.places.items c.args.entry.now c.self.invariant unnamed in
    sym c.self.view_is ∙ (sym same ∙ ap (λ cs. map (noted_region c.args.entry.now) cs) c.self.view_is)
