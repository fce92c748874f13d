use Rattle.std.proofs.Common.{rules, get_or, vec_len, ◌≡◌, ◌<◌, ◌≤◌, ℕ, List, length, sym, ap, subst, ◌∙◌}
use Rattle.std.proofs.lemmas.List.{places, set-get_or}
use Rattle.std.specs.Prelude.{slice_set}
use Rattle.hib_engines.specs.declared.region.Region.{Region}
use Rattle.hib_engines.specs.Region.{IsPlaced}
use Rattle.hib_engines.specs.Served.{IsServed}
use Rattle.hib_engines.proofs.Outcomes.{map_ok, map_on}
use Rattle.hib_engines.specs.Regions.{region_of, IsAtRegion}
use Rattle.hib_engines.proofs.RegionList.{region_at, region_put, at_region, none_past, none_due, on_ok}
use Rattle.hib_engines.proofs.region_list.serve_region.Goals as goal

pub returns-then-at-len-clause-answered : goal.returns-then-at-len-clause-answered
returns-then-at-len-clause-answered c = map_ok c.serve.result _ _ c.serve.ensures.answered (λ r p script l by k late e u.
    let xs : List Region = c.args.regions.now.items in
    let i : ℕ = c.entity.inside.0 in
    let whole : vec_len c.args.regions.now ≡ length c.args.regions.now.items = search (rules, places) in
    let below : i < length xs = subst (λ (m : ℕ). i < m) (c.len.ensures ∙ whole) c.if-at-len.true in
    let there : region_of xs c.args.entity ≡ c.index_mut.result.now =
    subst (λ (n : ℕ). region_of xs n ≡ c.index_mut.result.now) c.entity.view_is (region_at xs i c.index_mut.result.now below c.index_mut.ensures.value) in
    subst (λ (z : Region). IsServed (λ m. IsPlaced script c.args.entity m z) script l by c.args.now c.args.act.now r)
    (sym (region_put xs i c.args.entity c.serve.new.self c.entity.view_is below))
    (p script l c.args.entity by (subst (λ (z : Region). IsPlaced script c.args.entity l z) there k) late e u))

pub returns-then-at-len-clause-others : goal.returns-then-at-len-clause-others
returns-then-at-len-clause-others c =
    let xs : List Region = c.args.regions.now.items in
    on_ok c.serve.result _ (subst (λ (n : ℕ). IsAtRegion n xs (slice_set xs c.entity.inside.0 c.serve.new.self)) c.entity.view_is (at_region xs c.entity.inside.0 c.serve.new.self))

pub returns-clause-answered : goal.returns-clause-answered
returns-clause-answered c = λ script l by k late e u.
    let xs : List Region = c.args.regions.now.items in
    let i : ℕ = c.entity.inside.0 in
    let whole : vec_len c.args.regions.now ≡ length c.args.regions.now.items = search (rules, places) in
    let above : length xs ≤ i = subst (λ (m : ℕ). m ≤ i) (c.len.ensures ∙ whole) c.if-at-len.false in
    absurd (none_due script l c.args.entity c.args.act.now (region_of xs c.args.entity) (subst (λ (n : ℕ). region_of xs n ≡ Region.Uncached) c.entity.view_is (none_past xs i above)) k e u)

pub returns-then-at-len-clause-still : goal.returns-then-at-len-clause-still
returns-then-at-len-clause-still c = map_on c.serve.result _ _ c.serve.ensures.still (λ p q.
    let xs : List Region = c.args.regions.now.items in
    let i : ℕ = c.entity.inside.0 in
    let e : c.serve.new.self ≡ get_or xs i c.index_mut.result.now = p q ∙ c.index_mut.ensures.value in
    ap (slice_set xs i) e ∙ set-get_or xs i c.index_mut.result.now)
