use Rattle.std.proofs.Common.{List, Some, refl, sym, ap, subst, ◌∙◌}
use Rattle.hib_journal.specs.Types.{Part}
use Rattle.hib_journal.specs.Sessions.{same_part}
use Rattle.hib_engines.proofs.Outcomes.{map_ok, both_ok, map_on, map_err}
use Rattle.hib_engines.specs.Engines.{EnginesState, IsReady, IsStill, IsRefused}
use Rattle.hib_engines.specs.declared.region.Region.{Region}
use Rattle.hib_engines.proofs.Brought.{brings_none, store_reads, region_reads, ok_all}
use Rattle.hib_engines.proofs.Still.{still_same}
use Rattle.hib_engines.proofs.Left.{refused_same, store_refused}
use Rattle.hib_engines.proofs.Answered.{registry_answered, store_answered, stamps_answered, results_answered, region_answered}
use Rattle.hib_engines.proofs.engines.Engines.serve.Goals as goal

pub returns-in-Registry-clause-answered : goal.returns-in-Registry-clause-answered
returns-in-Registry-clause-answered g c = map_ok c.serve.result _ _ c.serve.ensures.answered (λ r p told h w o.
    let script = c.args.script.now in
    let x : EnginesState = record { store = c.self.inside.store; registry = c.self.inside.registry; stamps = c.self.inside.stamps; regions = c.self.inside.regions.items; results = c.self.inside.results } in
    let y : EnginesState = record { store = c.self.inside.store; registry = c.serve.new.self; stamps = c.self.inside.stamps; regions = c.self.inside.regions.items; results = c.self.inside.results } in
    let k : IsReady script told h c.args.session c.args.now c.args.act.now x = subst (λ v. IsReady script told h c.args.session c.args.now c.args.act.now v) (sym c.self.view_is) w in
    registry_answered c.laws.ensures script told h c.args.session c.args.now c.args.act.now r x y k (sym c.part_of.ensures ∙ c.in-Registry.is) o (p script h) refl refl refl refl)

pub returns-in-Store-clause-answered : goal.returns-in-Store-clause-answered
returns-in-Store-clause-answered g c = map_ok c.serve-in-Store.result _ _ c.serve-in-Store.ensures.answered (λ r p told h w o.
    let script = c.args.script.now in
    let x : EnginesState = record { store = c.self.inside.store; registry = c.self.inside.registry; stamps = c.self.inside.stamps; regions = c.self.inside.regions.items; results = c.self.inside.results } in
    let y : EnginesState = record { store = c.serve-in-Store.new.self; registry = c.self.inside.registry; stamps = c.self.inside.stamps; regions = c.self.inside.regions.items; results = c.self.inside.results } in
    let k : IsReady script told h c.args.session c.args.now c.args.act.now x = subst (λ v. IsReady script told h c.args.session c.args.now c.args.act.now v) (sym c.self.view_is) w in
    let q = sym c.part_of.ensures ∙ c.in-Store.is in
    store_answered c.laws.ensures script told h c.args.session c.args.now c.args.act.now r x y k q
    (p told h c.args.now k.standing.store (ap (same_part Part.Store) q) k.due.query) refl refl refl refl)

pub returns-in-Stamps-clause-answered : goal.returns-in-Stamps-clause-answered
returns-in-Stamps-clause-answered g c = map_ok c.serve-in-Stamps.result _ _ c.serve-in-Stamps.ensures.answered (λ r p told h w o.
    let script = c.args.script.now in
    let x : EnginesState = record { store = c.self.inside.store; registry = c.self.inside.registry; stamps = c.self.inside.stamps; regions = c.self.inside.regions.items; results = c.self.inside.results } in
    let y : EnginesState = record { store = c.self.inside.store; registry = c.self.inside.registry; stamps = c.serve-in-Stamps.new.self; regions = c.self.inside.regions.items; results = c.self.inside.results } in
    let k : IsReady script told h c.args.session c.args.now c.args.act.now x = subst (λ v. IsReady script told h c.args.session c.args.now c.args.act.now v) (sym c.self.view_is) w in
    stamps_answered c.laws.ensures script told h c.args.session c.args.now c.args.act.now r x y k (sym c.part_of.ensures ∙ c.in-Stamps.is) (p h (Some c.args.session)) refl refl refl refl)

pub returns-in-Results-clause-answered : goal.returns-in-Results-clause-answered
returns-in-Results-clause-answered g c = map_ok c.serve-in-Results.result _ _ c.serve-in-Results.ensures.answered (λ r p told h w o.
    let script = c.args.script.now in
    let x : EnginesState = record { store = c.self.inside.store; registry = c.self.inside.registry; stamps = c.self.inside.stamps; regions = c.self.inside.regions.items; results = c.self.inside.results } in
    let y : EnginesState = record { store = c.self.inside.store; registry = c.self.inside.registry; stamps = c.self.inside.stamps; regions = c.self.inside.regions.items; results = c.serve-in-Results.new.self } in
    let k : IsReady script told h c.args.session c.args.now c.args.act.now x = subst (λ v. IsReady script told h c.args.session c.args.now c.args.act.now v) (sym c.self.view_is) w in
    results_answered c.laws.ensures script told h c.args.session c.args.now c.args.act.now r x y k (sym c.part_of.ensures ∙ c.in-Results.is) (p script h (Some c.args.session) c.args.now) refl refl refl refl)

pub returns-in-Region-clause-answered : goal.returns-in-Region-clause-answered
returns-in-Region-clause-answered g c = both_ok c.serve_region.result _ _ _ c.serve_region.ensures.answered c.serve_region.ensures.others (λ r p at told h w o.
    let script = c.args.script.now in
    let x : EnginesState = record { store = c.self.inside.store; registry = c.self.inside.registry; stamps = c.self.inside.stamps; regions = c.self.inside.regions.items; results = c.self.inside.results } in
    let y : EnginesState = record { store = c.self.inside.store; registry = c.self.inside.registry; stamps = c.self.inside.stamps; regions = c.serve_region.new.regions.items; results = c.self.inside.results } in
    let k : IsReady script told h c.args.session c.args.now c.args.act.now x = subst (λ v. IsReady script told h c.args.session c.args.now c.args.act.now v) (sym c.self.view_is) w in
    region_answered c.laws.ensures script told h c.args.session c.args.now c.in-Region.entity c.args.act.now r x y k
    (sym c.part_of.ensures ∙ c.in-Region.is) (p script h (Some c.args.session)) at refl refl refl refl)

pub returns-in-Registry-clause-still : goal.returns-in-Registry-clause-still
returns-in-Registry-clause-still g c =
    ok_all c.serve.result _ (λ b. absurd (brings_none c.args.act.now c.args.session Part.Registry (sym c.part_of.ensures ∙ c.in-Registry.is) refl b))

pub returns-in-Stamps-clause-still : goal.returns-in-Stamps-clause-still
returns-in-Stamps-clause-still g c =
    ok_all c.serve-in-Stamps.result _ (λ b. absurd (brings_none c.args.act.now c.args.session Part.Stamps (sym c.part_of.ensures ∙ c.in-Stamps.is) refl b))

pub returns-in-Results-clause-still : goal.returns-in-Results-clause-still
returns-in-Results-clause-still g c =
    ok_all c.serve-in-Results.result _ (λ b. absurd (brings_none c.args.act.now c.args.session Part.Results (sym c.part_of.ensures ∙ c.in-Results.is) refl b))

pub returns-in-Store-clause-still : goal.returns-in-Store-clause-still
returns-in-Store-clause-still g c = map_on c.serve-in-Store.result _ _ c.serve-in-Store.ensures.still (λ p b.
    let y : EnginesState = record { store = c.serve-in-Store.new.self; registry = c.self.inside.registry; stamps = c.self.inside.stamps; regions = c.self.inside.regions.items; results = c.self.inside.results } in
    subst (λ v. IsStill v y) c.self.view_is
    (record { store = p (store_reads c.args.act.now c.args.session (sym c.part_of.ensures ∙ c.in-Store.is) b); registry = refl; stamps = refl; regions = refl; results = refl }))

pub returns-in-Region-clause-still : goal.returns-in-Region-clause-still
returns-in-Region-clause-still g c = map_on c.serve_region.result _ _ c.serve_region.ensures.still (λ p b.
    let y : EnginesState = record { store = c.self.inside.store; registry = c.self.inside.registry; stamps = c.self.inside.stamps; regions = c.serve_region.new.regions.items; results = c.self.inside.results } in
    still_same c.args.self.now y
    (ap (λ (rs : List Region). let z : EnginesState = record { store = c.self.inside.store; registry = c.self.inside.registry; stamps = c.self.inside.stamps; regions = rs; results = c.self.inside.results } in z)
    (p (region_reads c.args.act.now c.args.session c.in-Region.entity (sym c.part_of.ensures ∙ c.in-Region.is) b)) ∙ c.self.view_is))

pub returns-in-Own-clause-still : goal.returns-in-Own-clause-still
returns-in-Own-clause-still g c = λ b. still_same c.args.self.now c.args.self.now refl

pub returns-in-Registry-clause-refused : goal.returns-in-Registry-clause-refused
returns-in-Registry-clause-refused g c = map_err c.serve.result _ _ c.serve.ensures.err (λ e told h k.
    let y : EnginesState = record { store = c.self.inside.store; registry = c.serve.new.self; stamps = c.self.inside.stamps; regions = c.self.inside.regions.items; results = c.self.inside.results } in
    refused_same h c.args.session c.args.act.now c.args.self.now y
    (ap (λ z. let v : EnginesState = record { store = c.self.inside.store; registry = z; stamps = c.self.inside.stamps; regions = c.self.inside.regions.items; results = c.self.inside.results } in v) e ∙ c.self.view_is))

pub returns-in-Stamps-clause-refused : goal.returns-in-Stamps-clause-refused
returns-in-Stamps-clause-refused g c = map_err c.serve-in-Stamps.result _ _ c.serve-in-Stamps.ensures.err (λ e told h k.
    let y : EnginesState = record { store = c.self.inside.store; registry = c.self.inside.registry; stamps = c.serve-in-Stamps.new.self; regions = c.self.inside.regions.items; results = c.self.inside.results } in
    refused_same h c.args.session c.args.act.now c.args.self.now y
    (ap (λ z. let v : EnginesState = record { store = c.self.inside.store; registry = c.self.inside.registry; stamps = z; regions = c.self.inside.regions.items; results = c.self.inside.results } in v) e ∙ c.self.view_is))

pub returns-in-Results-clause-refused : goal.returns-in-Results-clause-refused
returns-in-Results-clause-refused g c = map_err c.serve-in-Results.result _ _ c.serve-in-Results.ensures.err (λ e told h k.
    let y : EnginesState = record { store = c.self.inside.store; registry = c.self.inside.registry; stamps = c.self.inside.stamps; regions = c.self.inside.regions.items; results = c.serve-in-Results.new.self } in
    refused_same h c.args.session c.args.act.now c.args.self.now y
    (ap (λ z. let v : EnginesState = record { store = c.self.inside.store; registry = c.self.inside.registry; stamps = c.self.inside.stamps; regions = c.self.inside.regions.items; results = z } in v) e ∙ c.self.view_is))

pub returns-in-Store-clause-refused : goal.returns-in-Store-clause-refused
returns-in-Store-clause-refused g c = map_err c.serve-in-Store.result _ _ c.serve-in-Store.ensures.left (λ p told h k.
    let x : EnginesState = record { store = c.self.inside.store; registry = c.self.inside.registry; stamps = c.self.inside.stamps; regions = c.self.inside.regions.items; results = c.self.inside.results } in
    let y : EnginesState = record { store = c.serve-in-Store.new.self; registry = c.self.inside.registry; stamps = c.self.inside.stamps; regions = c.self.inside.regions.items; results = c.self.inside.results } in
    let w : IsReady c.args.script.now told h c.args.session c.args.now c.args.act.now x = subst (λ v. IsReady c.args.script.now told h c.args.session c.args.now c.args.act.now v) (sym c.self.view_is) k in
    subst (λ v. IsRefused h c.args.session c.args.act.now v y) c.self.view_is
    (store_refused c.args.script.now told h c.args.session c.args.now c.args.act.now x y w p refl refl refl refl))

pub returns-in-Region-clause-refused : goal.returns-in-Region-clause-refused
returns-in-Region-clause-refused g c = map_err c.serve_region.result _ _ c.serve_region.ensures.err (λ e told h k.
    let y : EnginesState = record { store = c.self.inside.store; registry = c.self.inside.registry; stamps = c.self.inside.stamps; regions = c.serve_region.new.regions.items; results = c.self.inside.results } in
    refused_same h c.args.session c.args.act.now c.args.self.now y
    (ap (λ (z : List Region). let v : EnginesState = record { store = c.self.inside.store; registry = c.self.inside.registry; stamps = c.self.inside.stamps; regions = z; results = c.self.inside.results } in v) e ∙ c.self.view_is))

pub returns-in-Registry-clause-passed : goal.returns-in-Registry-clause-passed
returns-in-Registry-clause-passed g c =
    ok_all c.serve.result _ (λ b. absurd (brings_none c.args.act.now c.args.session Part.Registry (sym c.part_of.ensures ∙ c.in-Registry.is) refl b))

pub returns-in-Stamps-clause-passed : goal.returns-in-Stamps-clause-passed
returns-in-Stamps-clause-passed g c =
    ok_all c.serve-in-Stamps.result _ (λ b. absurd (brings_none c.args.act.now c.args.session Part.Stamps (sym c.part_of.ensures ∙ c.in-Stamps.is) refl b))

pub returns-in-Results-clause-passed : goal.returns-in-Results-clause-passed
returns-in-Results-clause-passed g c =
    ok_all c.serve-in-Results.result _ (λ b. absurd (brings_none c.args.act.now c.args.session Part.Results (sym c.part_of.ensures ∙ c.in-Results.is) refl b))

pub returns-in-Store-clause-passed : goal.returns-in-Store-clause-passed
returns-in-Store-clause-passed g c = map_on c.serve-in-Store.result _ _ c.serve-in-Store.ensures.passed (λ p b told h k.
    let x : EnginesState = record { store = c.self.inside.store; registry = c.self.inside.registry; stamps = c.self.inside.stamps; regions = c.self.inside.regions.items; results = c.self.inside.results } in
    let y : EnginesState = record { store = c.serve-in-Store.new.self; registry = c.self.inside.registry; stamps = c.self.inside.stamps; regions = c.self.inside.regions.items; results = c.self.inside.results } in
    let w : IsReady c.args.script.now told h c.args.session c.args.now c.args.act.now x = subst (λ v. IsReady c.args.script.now told h c.args.session c.args.now c.args.act.now v) (sym c.self.view_is) k in
    subst (λ v. IsRefused h c.args.session c.args.act.now v y) c.self.view_is
    (store_refused c.args.script.now told h c.args.session c.args.now c.args.act.now x y w
    (p (store_reads c.args.act.now c.args.session (sym c.part_of.ensures ∙ c.in-Store.is) b)) refl refl refl refl))

pub returns-in-Region-clause-passed : goal.returns-in-Region-clause-passed
returns-in-Region-clause-passed g c = map_on c.serve_region.result _ _ c.serve_region.ensures.still (λ p b told h k.
    let y : EnginesState = record { store = c.self.inside.store; registry = c.self.inside.registry; stamps = c.self.inside.stamps; regions = c.serve_region.new.regions.items; results = c.self.inside.results } in
    refused_same h c.args.session c.args.act.now c.args.self.now y
    (ap (λ (rs : List Region). let v : EnginesState = record { store = c.self.inside.store; registry = c.self.inside.registry; stamps = c.self.inside.stamps; regions = rs; results = c.self.inside.results } in v)
    (p (region_reads c.args.act.now c.args.session c.in-Region.entity (sym c.part_of.ensures ∙ c.in-Region.is) b)) ∙ c.self.view_is))

pub returns-in-Own-clause-passed : goal.returns-in-Own-clause-passed
returns-in-Own-clause-passed g c = λ b told h k. refused_same h c.args.session c.args.act.now c.args.self.now c.args.self.now refl
