use Rattle.std.proofs.Common.{◌≡◌, ◌<◌, List, length, slice_get, Some, subst}
use Rattle.hib_parts.specs.Listed.{RegionState}
use Rattle.hib_parts.specs.Run.{IsFirst}
use Rattle.hib_parts.proofs.Regions.{same_entities}
use Rattle.hib_parts.proofs.Run.{region_stepped}
use Rattle.hib_parts.proofs.turns.step_regions.Goals as goal

pub returns-clause-entities : goal.returns-clause-entities
returns-clause-entities g c = same_entities (λ r. r.entity) c.args.regions.now.items c.in-Some.place c.index_mut.result.now c.step_region.new.region c.index_mut.ensures.value c.step_region.ensures.entity

pub returns-clause-entered : goal.returns-clause-entered
returns-clause-entered g c =
    let rs : List RegionState = c.args.regions.now.items in
    let first : IsFirst c.args.entity c.in-Some.place rs = subst (λ (xs : List RegionState). IsFirst c.args.entity c.in-Some.place xs) c.as_slice.ensures.value c.in-Some.ensures.first in
    let there : c.in-Some.place < length rs = subst (λ (xs : List RegionState). c.in-Some.place < length xs) c.as_slice.ensures.value c.in-Some.ensures.there in
    let named : (x : RegionState) → slice_get rs c.in-Some.place ≡ Some x → x.entity ≡ c.args.entity =
    subst (λ (xs : List RegionState). (x : RegionState) → slice_get xs c.in-Some.place ≡ Some x → x.entity ≡ c.args.entity) c.as_slice.ensures.value c.in-Some.ensures.entity in
    region_stepped c.step_region.result c.args.entity c.in-Some.place rs c.index_mut.result.now c.step_region.new.region c.args.worker.now c.step_region.new.worker first there c.index_mut.ensures.value named c.step_region.ensures.entity
    c.step_region.ensures.entered
