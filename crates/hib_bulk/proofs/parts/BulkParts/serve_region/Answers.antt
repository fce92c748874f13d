use Rattle.std.proofs.Common.{rules, vec_len, get_or, ◌≡◌, ◌<◌, ◌≤◌, ℕ, false, List, length, None, refl, sym, ap, subst, ◌∙◌}
use Rattle.std.proofs.lemmas.List.{places, set-get_or}
use Rattle.std.proofs.lemmas.Option.{none-some, same_Some}
use Rattle.std.specs.Prelude.{slice_set}
use Rattle.hib_journal.specs.Sessions.{time}
use Rattle.hib_bulk_law.specs.Plain.{plain}
use Rattle.hib_engines.specs.Registry.{time_of}
use Rattle.hib_engines.proofs.Outcomes.{both_ok, map_on}
use Rattle.hib_bulk.specs.declared.region.EntityRegion.{EntityRegion}
use Rattle.hib_bulk.specs.Regions.{region_of, has_old_in, IsPlaced}
use Rattle.hib_bulk.specs.Standing.{BulkPartsState, IsReady}
use Rattle.hib_bulk.proofs.RegionList.{none_past, region_at, region_put, at_region}
use Rattle.hib_bulk.proofs.Placed.{WideAnswers, WideGrows, IsRegional, regional, none_due, brings_rest}
use Rattle.hib_bulk.proofs.Answered.{time_known, regional_of, region_answered}
use Rattle.hib_bulk.proofs.parts.BulkParts.serve_region.Goals as goal

pub returns-in_default-clause-answered : goal.returns-in_default-clause-answered
returns-in_default-clause-answered g c = λ script lines told h k e.
    let none : time_of c.args.self.now.registry c.args.session ≡ None = sym (ap (λ (v : BulkPartsState). time_of v.registry c.args.session) c.self.view_is) ∙ (sym c.time.ensures ∙ c.in_default.is) in
    absurd (none-some (time c.args.session (plain h)) (sym none ∙ time_known script lines told h c.args.session c.args.now c.args.act.now c.args.self.now k c.args.entity e))

pub serve-requires-clause-swept : goal.serve-requires-clause-swept
serve-requires-clause-swept g c = λ k p.
    let xs : List EntityRegion = c.self.inside.regions.items in
    let i : ℕ = c.entity.inside.0 in
    let whole : vec_len c.self.inside.regions ≡ length c.self.inside.regions.items = search (rules, places) in
    let below : i < length xs = subst (λ (m : ℕ). i < m) (c.len.ensures ∙ whole) c.if-at-len.true in
    let there : region_of xs c.args.entity ≡ c.index_mut.result.now =
    subst (λ (n : ℕ). region_of xs n ≡ c.index_mut.result.now) c.entity.view_is (region_at xs i c.index_mut.result.now below c.index_mut.ensures.value) in
    subst (λ z. has_old_in z k.id ≡ false) there (subst (λ (v : BulkPartsState). has_old_in (region_of v.regions c.args.entity) k.id ≡ false) (sym c.self.view_is) (c.requires.swept k p))

pub returns-then-at-len-clause-answered : goal.returns-then-at-len-clause-answered
returns-then-at-len-clause-answered g c = both_ok c.serve.result _ _ _ c.serve.ensures.answer c.serve.ensures.state (λ r p q script lines told h w e.
    let s = c.args.session in
    let a = c.args.act.now in
    let x : BulkPartsState = record { store = c.self.inside.store; registry = c.self.inside.registry; stamps = c.self.inside.stamps; regions = c.self.inside.regions.items; results = c.self.inside.results } in
    let xs : List EntityRegion = c.self.inside.regions.items in
    let i : ℕ = c.entity.inside.0 in
    let y : BulkPartsState = record x { regions = slice_set xs i c.serve.new.self } in
    let whole : vec_len c.self.inside.regions ≡ length c.self.inside.regions.items = search (rules, places) in
    let below : i < length xs = subst (λ (m : ℕ). i < m) (c.len.ensures ∙ whole) c.if-at-len.true in
    let there : region_of xs c.args.entity ≡ c.index_mut.result.now =
    subst (λ (n : ℕ). region_of xs n ≡ c.index_mut.result.now) c.entity.view_is (region_at xs i c.index_mut.result.now below c.index_mut.ensures.value) in
    let k : IsReady script lines told h s c.args.now a x = subst (λ v. IsReady script lines told h s c.args.now a v) (sym c.self.view_is) w in
    let b : c.in-Some.begun ≡ time s (plain h) = same_Some c.in-Some.begun (time s (plain h)) (sym c.in-Some.is ∙ (c.time.ensures ∙ time_known script lines told h s c.args.now a x k c.args.entity e)) in
    let u = regional_of script a s c.args.entity e k.due.suits in
    let answers : WideAnswers = record { get = c.answers.ensures.get; put = c.answers.ensures.put; lock = c.answers.ensures.lock; unlock = c.answers.ensures.unlock; after_update = c.answers.ensures.after_update; after_insert = c.answers.ensures.after_insert } in
    let grows : WideGrows = record { get = c.grows.ensures.get; put = c.grows.ensures.put; lock = c.grows.ensures.lock; unlock = c.grows.ensures.unlock; after_update = c.grows.ensures.after_update; after_insert = c.grows.ensures.after_insert } in
    let v : IsRegional script lines told h s c.args.now c.args.entity a r c.serve.new.self =
    regional answers grows script lines told h s c.args.now c.args.entity c.in-Some.begun a r c.index_mut.result.now c.serve.new.self k.late e b
    (subst (λ (z : EntityRegion). IsPlaced script c.args.entity h z) there (k.standing.regions c.args.entity)) u.1 k.due.inside p q in
    region_answered c.laws.ensures c.stays.ensures.elsewhere script lines told h s c.args.now a x k c.args.entity r y u.0 e
    (subst (λ (z : EntityRegion). IsRegional script lines told h s c.args.now c.args.entity a r z) (sym (region_put xs i c.args.entity c.serve.new.self c.entity.view_is below)) v)
    (subst (λ (n : ℕ). Rattle.hib_bulk.specs.Regions.IsAtRegion n xs (slice_set xs i c.serve.new.self)) c.entity.view_is (at_region xs i c.serve.new.self)) refl refl refl refl)

pub returns-then-at-len-clause-still : goal.returns-then-at-len-clause-still
returns-then-at-len-clause-still g c = map_on c.serve.result _ _ c.serve.ensures.state (λ q b.
    let xs : List EntityRegion = c.self.inside.regions.items in
    let i : ℕ = c.entity.inside.0 in
    let e : c.serve.new.self ≡ get_or xs i c.index_mut.result.now = q ∙ brings_rest c.index_mut.result.now c.in-Some.begun c.args.now c.args.act.now b ∙ c.index_mut.ensures.value in
    let x : BulkPartsState = record { store = c.self.inside.store; registry = c.self.inside.registry; stamps = c.self.inside.stamps; regions = c.self.inside.regions.items; results = c.self.inside.results } in
    ap (λ (ys : List EntityRegion). record x { regions = ys }) (ap (slice_set xs i) e ∙ set-get_or xs i c.index_mut.result.now) ∙ c.self.view_is)

pub returns-clause-answered : goal.returns-clause-answered
returns-clause-answered g c = λ script lines told h w e.
    let a = c.args.act.now in
    let x : BulkPartsState = record { store = c.self.inside.store; registry = c.self.inside.registry; stamps = c.self.inside.stamps; regions = c.self.inside.regions.items; results = c.self.inside.results } in
    let xs : List EntityRegion = c.self.inside.regions.items in
    let i : ℕ = c.entity.inside.0 in
    let whole : vec_len c.self.inside.regions ≡ length c.self.inside.regions.items = search (rules, places) in
    let above : length xs ≤ i = subst (λ (m : ℕ). m ≤ i) (c.len.ensures ∙ whole) c.if-at-len.false in
    let k : IsReady script lines told h c.args.session c.args.now a x = subst (λ v. IsReady script lines told h c.args.session c.args.now a v) (sym c.self.view_is) w in
    absurd (none_due script h c.args.entity a (region_of xs c.args.entity) (subst (λ (n : ℕ). region_of xs n ≡ EntityRegion.Uncached) c.entity.view_is (none_past xs i above))
    (k.standing.regions c.args.entity) e (regional_of script a c.args.session c.args.entity e k.due.suits).1)
