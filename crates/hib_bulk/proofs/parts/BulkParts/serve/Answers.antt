use Rattle.std.proofs.Common.{Some, refl, sym, ap, subst, ◌∙◌}
use Rattle.hib_journal.specs.Types.{Part}
use Rattle.hib_journal.specs.Sessions.{same_part}
use Rattle.hib_bulk_law.specs.Plain.{plain}
use Rattle.hib_engines.proofs.Outcomes.{map_ok, map_on}
use Rattle.hib_engines.proofs.Brought.{brings_none, store_reads, ok_all}
use Rattle.hib_bulk.specs.Standing.{BulkPartsState, IsReady, IsStill}
use Rattle.hib_bulk.proofs.Kept.{of_none}
use Rattle.hib_bulk.proofs.Replies.{quiet}
use Rattle.hib_bulk.proofs.Answered.{registry_answered, store_answered, store_stands, stamps_answered, results_answered}
use Rattle.hib_bulk.proofs.parts.BulkParts.serve.Goals as goal

pub returns-in-Registry-clause-answered : goal.returns-in-Registry-clause-answered
returns-in-Registry-clause-answered g c = map_ok c.serve.result _ _ c.serve.ensures.answered (λ r p lines told h w o e.
    let script = c.args.script.now in
    let x : BulkPartsState = record { store = c.self.inside.store; registry = c.self.inside.registry; stamps = c.self.inside.stamps; regions = c.self.inside.regions.items; results = c.self.inside.results } in
    let y : BulkPartsState = record { store = c.self.inside.store; registry = c.serve.new.self; stamps = c.self.inside.stamps; regions = c.self.inside.regions.items; results = c.self.inside.results } in
    let k : IsReady script lines told h c.args.session c.args.now c.args.act.now x = subst (λ v. IsReady script lines told h c.args.session c.args.now c.args.act.now v) (sym c.self.view_is) w in
    let q = sym c.part_of.ensures ∙ c.in-Registry.is in
    registry_answered c.laws.ensures c.stays.ensures.elsewhere script lines told h c.args.session c.args.now c.args.act.now x k r y q (of_none c.args.act.now e) o (p script (plain h)) refl refl refl refl)

pub returns-in-Store-clause-answered : goal.returns-in-Store-clause-answered
returns-in-Store-clause-answered g c = map_ok c.serve-in-Store.result _ _ c.serve-in-Store.ensures.answered (λ r p lines told h w o e.
    let script = c.args.script.now in
    let x : BulkPartsState = record { store = c.self.inside.store; registry = c.self.inside.registry; stamps = c.self.inside.stamps; regions = c.self.inside.regions.items; results = c.self.inside.results } in
    let y : BulkPartsState = record { store = c.serve-in-Store.new.self; registry = c.self.inside.registry; stamps = c.self.inside.stamps; regions = c.self.inside.regions.items; results = c.self.inside.results } in
    let k : IsReady script lines told h c.args.session c.args.now c.args.act.now x = subst (λ v. IsReady script lines told h c.args.session c.args.now c.args.act.now v) (sym c.self.view_is) w in
    let q = sym c.part_of.ensures ∙ c.in-Store.is in
    store_answered c.laws.ensures c.stays.ensures.elsewhere script lines told h c.args.session c.args.now c.args.act.now x k r y q (of_none c.args.act.now e)
    (p x.store.tables (quiet (plain h)) c.args.now (store_stands c.laws.ensures c.stays.ensures.elsewhere script lines told h c.args.session c.args.now c.args.act.now x k)
    (ap (same_part Part.Store) q) k.due.query) refl refl refl refl)

pub returns-in-Stamps-clause-answered : goal.returns-in-Stamps-clause-answered
returns-in-Stamps-clause-answered g c = map_ok c.serve-in-Stamps.result _ _ c.serve-in-Stamps.ensures.answered (λ r p lines told h w o e.
    let script = c.args.script.now in
    let x : BulkPartsState = record { store = c.self.inside.store; registry = c.self.inside.registry; stamps = c.self.inside.stamps; regions = c.self.inside.regions.items; results = c.self.inside.results } in
    let y : BulkPartsState = record { store = c.self.inside.store; registry = c.self.inside.registry; stamps = c.serve-in-Stamps.new.self; regions = c.self.inside.regions.items; results = c.self.inside.results } in
    let k : IsReady script lines told h c.args.session c.args.now c.args.act.now x = subst (λ v. IsReady script lines told h c.args.session c.args.now c.args.act.now v) (sym c.self.view_is) w in
    let q = sym c.part_of.ensures ∙ c.in-Stamps.is in
    stamps_answered c.laws.ensures c.stays.ensures.elsewhere script lines told h c.args.session c.args.now c.args.act.now x k r y q (of_none c.args.act.now e) (p (plain h) (Some c.args.session)) refl refl refl refl)

pub returns-in-Results-clause-answered : goal.returns-in-Results-clause-answered
returns-in-Results-clause-answered g c = map_ok c.serve-in-Results.result _ _ c.serve-in-Results.ensures.answered (λ r p lines told h w o e.
    let script = c.args.script.now in
    let x : BulkPartsState = record { store = c.self.inside.store; registry = c.self.inside.registry; stamps = c.self.inside.stamps; regions = c.self.inside.regions.items; results = c.self.inside.results } in
    let y : BulkPartsState = record { store = c.self.inside.store; registry = c.self.inside.registry; stamps = c.self.inside.stamps; regions = c.self.inside.regions.items; results = c.serve-in-Results.new.self } in
    let k : IsReady script lines told h c.args.session c.args.now c.args.act.now x = subst (λ v. IsReady script lines told h c.args.session c.args.now c.args.act.now v) (sym c.self.view_is) w in
    let q = sym c.part_of.ensures ∙ c.in-Results.is in
    results_answered c.laws.ensures c.stays.ensures.elsewhere script lines told h c.args.session c.args.now c.args.act.now x k r y q (of_none c.args.act.now e) (p script (plain h) (Some c.args.session) c.args.now) refl refl refl refl)

pub returns-in-Registry-clause-still : goal.returns-in-Registry-clause-still
returns-in-Registry-clause-still g c =
    ok_all c.serve.result _ (λ b. absurd (brings_none c.args.act.now c.args.session Part.Registry (sym c.part_of.ensures ∙ c.in-Registry.is) refl b))

pub returns-in-Stamps-clause-still : goal.returns-in-Stamps-clause-still
returns-in-Stamps-clause-still g c =
    ok_all c.serve-in-Stamps.result _ (λ b. absurd (brings_none c.args.act.now c.args.session Part.Stamps (sym c.part_of.ensures ∙ c.in-Stamps.is) refl b))

pub returns-in-Results-clause-still : goal.returns-in-Results-clause-still
returns-in-Results-clause-still g c =
    ok_all c.serve-in-Results.result _ (λ b. absurd (brings_none c.args.act.now c.args.session Part.Results (sym c.part_of.ensures ∙ c.in-Results.is) refl b))

pub returns-in-Store-clause-still : goal.returns-in-Store-clause-still
returns-in-Store-clause-still g c = map_on c.serve-in-Store.result _ _ c.serve-in-Store.ensures.still (λ p b.
    let y : BulkPartsState = record { store = c.serve-in-Store.new.self; registry = c.self.inside.registry; stamps = c.self.inside.stamps; regions = c.self.inside.regions.items; results = c.self.inside.results } in
    subst (λ v. IsStill v y) c.self.view_is
    (record { store = p (store_reads c.args.act.now c.args.session (sym c.part_of.ensures ∙ c.in-Store.is) b); registry = refl; stamps = refl; regions = refl; results = refl }))
