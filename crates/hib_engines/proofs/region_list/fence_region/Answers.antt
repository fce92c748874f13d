use Rattle.std.proofs.Common.{rules, get_or, vec_len, ◌≡◌, ◌<◌, ℕ, List, length, sym, ap, subst, ◌∙◌}
use Rattle.std.proofs.lemmas.List.{places}
use Rattle.std.specs.Prelude.{slice_set}
use Rattle.hib_engines.specs.declared.region.Region.{Region}
use Rattle.hib_engines.specs.Region.{IsPlaced}
use Rattle.hib_engines.specs.Fenced.{IsFenced}
use Rattle.hib_engines.proofs.Outcomes.{map_ok}
use Rattle.hib_engines.specs.Regions.{region_of, IsAtRegion}
use Rattle.hib_engines.proofs.RegionList.{region_at, region_put, at_region, on_ok}
use Rattle.hib_engines.proofs.region_list.fence_region.Goals as goal

pub returns-then-at-len-clause-fenced : goal.returns-then-at-len-clause-fenced
returns-then-at-len-clause-fenced c = map_ok c.fence.result _ _ c.fence.ensures.fenced (λ f p script l k late u.
    let xs : List Region = c.args.regions.now.items in
    let i : ℕ = c.entity.inside.0 in
    let whole : vec_len c.args.regions.now ≡ length c.args.regions.now.items = search (rules, places) in
    let below : i < length xs = subst (λ (m : ℕ). i < m) (c.len.ensures ∙ whole) c.if-at-len.true in
    let there : region_of xs c.args.key.entity ≡ c.index_mut.result.now =
    subst (λ (n : ℕ). region_of xs n ≡ c.index_mut.result.now) c.entity.view_is (region_at xs i c.index_mut.result.now below c.index_mut.ensures.value) in
    subst (λ (z : Region). IsFenced (λ m. IsPlaced script c.args.key.entity m z) script l c.args.now c.args.key c.args.floor f.0 f.1)
    (sym (region_put xs i c.args.key.entity c.fence.new.self c.entity.view_is below))
    (p script l (subst (λ (z : Region). IsPlaced script c.args.key.entity l z) there k) late u))

pub returns-then-at-len-clause-others : goal.returns-then-at-len-clause-others
returns-then-at-len-clause-others c =
    let xs : List Region = c.args.regions.now.items in
    on_ok c.fence.result _ (subst (λ (n : ℕ). IsAtRegion n xs (slice_set xs c.entity.inside.0 c.fence.new.self)) c.entity.view_is (at_region xs c.entity.inside.0 c.fence.new.self))
