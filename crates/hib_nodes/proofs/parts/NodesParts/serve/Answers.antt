use Rattle.std.proofs.Common.{◌≤◌, Some, refl, sym, ap, subst, ◌∙◌, arith}
use Rattle.hib_journal.specs.Types.{Part}
use Rattle.hib_journal.specs.Sessions.{same_part}
use Rattle.hib_journal.specs.Lists.{of_part}
use Rattle.hib_store.specs.Stores.{StoreState}
use Rattle.hib_nodes_law.specs.Nodes.{entries}
use Rattle.hib_engines.proofs.Outcomes.{map_ok, both_ok, map_on, map_err}
use Rattle.hib_engines.proofs.Brought.{brings_none, store_reads, region_reads, ok_all}
use Rattle.hib_nodes.specs.Standing.{NodesPartsState, IsReady, IsRefused}
use Rattle.hib_nodes.proofs.Answered.{registry_answered, store_answered, stamps_answered, results_answered, region_answered}
use Rattle.hib_nodes.proofs.Refused.{refused_same, store_refused}
use Rattle.hib_nodes.proofs.parts.NodesParts.serve.Goals as goal

pub returns-in-Registry-clause-answered : goal.returns-in-Registry-clause-answered
returns-in-Registry-clause-answered g c = map_ok c.begin.result _ _ c.begin.ensures.served (λ r p told h w o.
    registry_answered c.args.script.now told h c.args.node c.args.session c.args.now c.args.act.now r c.args.self.now c.begin.new.self w
    (sym c.part_of.ensures ∙ c.in-Registry.is) o (p c.args.script.now) c.begin.ensures.regions (c.begin.ensures.alone w.node))

pub returns-in-Store-clause-answered : goal.returns-in-Store-clause-answered
returns-in-Store-clause-answered g c = map_ok c.serve.result _ _ c.serve.ensures.answered (λ r p told h w o.
    let script = c.args.script.now in
    let x : NodesPartsState = record { store = c.self.inside.store; stamps = c.self.inside.stamps; results = c.self.inside.results; first = c.self.inside.first; second = c.self.inside.second } in
    let y : NodesPartsState = record { store = c.serve.new.self; stamps = c.self.inside.stamps; results = c.self.inside.results; first = c.self.inside.first; second = c.self.inside.second } in
    let k : IsReady script told h c.args.node c.args.session c.args.now c.args.act.now x = subst (λ v. IsReady script told h c.args.node c.args.session c.args.now c.args.act.now v) (sym c.self.view_is) w in
    let q = sym c.part_of.ensures ∙ c.in-Store.is in
    store_answered script told h c.args.node c.args.session c.args.now c.args.act.now r x y k q
    (p told (of_part Part.Store (entries h)) c.args.now k.standing.store (ap (same_part Part.Store) q) k.due.query) refl refl (λ m. refl))

pub returns-in-Stamps-clause-answered : goal.returns-in-Stamps-clause-answered
returns-in-Stamps-clause-answered g c = map_ok c.serve-in-Stamps.result _ _ c.serve-in-Stamps.ensures.answered (λ r p told h w o.
    let script = c.args.script.now in
    let x : NodesPartsState = record { store = c.self-in-Stamps.inside.store; stamps = c.self-in-Stamps.inside.stamps; results = c.self-in-Stamps.inside.results; first = c.self-in-Stamps.inside.first; second = c.self-in-Stamps.inside.second } in
    let y : NodesPartsState = record { store = c.self-in-Stamps.inside.store; stamps = c.serve-in-Stamps.new.self; results = c.self-in-Stamps.inside.results; first = c.self-in-Stamps.inside.first; second = c.self-in-Stamps.inside.second } in
    let k : IsReady script told h c.args.node c.args.session c.args.now c.args.act.now x = subst (λ v. IsReady script told h c.args.node c.args.session c.args.now c.args.act.now v) (sym c.self-in-Stamps.view_is) w in
    stamps_answered script told h c.args.node c.args.session c.args.now c.args.act.now r x y k (sym c.part_of.ensures ∙ c.in-Stamps.is)
    (p (of_part Part.Stamps (entries h)) (Some c.args.session)) refl refl (λ m. refl))

pub returns-in-Results-clause-answered : goal.returns-in-Results-clause-answered
returns-in-Results-clause-answered g c = map_ok c.serve-in-Results.result _ _ c.serve-in-Results.ensures.answered (λ r p told h w o.
    let script = c.args.script.now in
    let x : NodesPartsState = record { store = c.self-in-Results.inside.store; stamps = c.self-in-Results.inside.stamps; results = c.self-in-Results.inside.results; first = c.self-in-Results.inside.first; second = c.self-in-Results.inside.second } in
    let y : NodesPartsState = record { store = c.self-in-Results.inside.store; stamps = c.self-in-Results.inside.stamps; results = c.serve-in-Results.new.self; first = c.self-in-Results.inside.first; second = c.self-in-Results.inside.second } in
    let k : IsReady script told h c.args.node c.args.session c.args.now c.args.act.now x = subst (λ v. IsReady script told h c.args.node c.args.session c.args.now c.args.act.now v) (sym c.self-in-Results.view_is) w in
    results_answered script told h c.args.node c.args.session c.args.now c.args.act.now r x y k (sym c.part_of.ensures ∙ c.in-Results.is)
    (p script (of_part Part.Results (entries h)) (Some c.args.session) c.args.now) refl refl (λ m. refl))

pub returns-in-Region-clause-answered : goal.returns-in-Region-clause-answered
returns-in-Region-clause-answered g c = both_ok c.ask_region.result _ _ _ c.ask_region.ensures.served c.ask_region.ensures.others (λ r p at told h w o.
    region_answered c.args.script.now told h c.args.node c.args.session c.args.now c.args.act.now r c.args.self.now c.ask_region.new.self w c.in-Region.entity
    (sym c.part_of.ensures ∙ c.in-Region.is) (λ l. p c.args.script.now l (Some c.args.session)) at c.ask_region.ensures.registry (c.ask_region.ensures.alone w.node))

pub returns-in-Registry-clause-faults : goal.returns-in-Registry-clause-faults
returns-in-Registry-clause-faults g c = subst (λ (z : StoreState). c.args.self.now.store.faults ≤ z.faults) (sym c.begin.ensures.store) (omega arith)

pub returns-in-Region-clause-faults : goal.returns-in-Region-clause-faults
returns-in-Region-clause-faults g c = subst (λ (z : StoreState). c.args.self.now.store.faults ≤ z.faults) (sym c.ask_region.ensures.store) (omega arith)

pub returns-in-Registry-clause-refused : goal.returns-in-Registry-clause-refused
returns-in-Registry-clause-refused g c = map_err c.begin.result _ _ c.begin.ensures.err (λ e told h k. refused_same h c.args.session c.args.act.now c.args.self.now c.begin.new.self e)

pub returns-in-Store-clause-refused : goal.returns-in-Store-clause-refused
returns-in-Store-clause-refused g c = map_err c.serve.result _ _ c.serve.ensures.left (λ p told h k.
    let x : NodesPartsState = record { store = c.self.inside.store; stamps = c.self.inside.stamps; results = c.self.inside.results; first = c.self.inside.first; second = c.self.inside.second } in
    let y : NodesPartsState = record { store = c.serve.new.self; stamps = c.self.inside.stamps; results = c.self.inside.results; first = c.self.inside.first; second = c.self.inside.second } in
    let w : IsReady c.args.script.now told h c.args.node c.args.session c.args.now c.args.act.now x = subst (λ v. IsReady c.args.script.now told h c.args.node c.args.session c.args.now c.args.act.now v) (sym c.self.view_is) k in
    subst (λ v. IsRefused h c.args.session c.args.act.now v y) c.self.view_is
    (store_refused c.args.script.now told h c.args.node c.args.session c.args.now c.args.act.now x y w p refl refl refl refl))

pub returns-in-Stamps-clause-refused : goal.returns-in-Stamps-clause-refused
returns-in-Stamps-clause-refused g c = map_err c.serve-in-Stamps.result _ _ c.serve-in-Stamps.ensures.err (λ e told h k.
    let y : NodesPartsState = record { store = c.self-in-Stamps.inside.store; stamps = c.serve-in-Stamps.new.self; results = c.self-in-Stamps.inside.results; first = c.self-in-Stamps.inside.first; second = c.self-in-Stamps.inside.second } in
    refused_same h c.args.session c.args.act.now c.args.self.now y
    (ap (λ z. let v : NodesPartsState = record { store = c.self-in-Stamps.inside.store; stamps = z; results = c.self-in-Stamps.inside.results; first = c.self-in-Stamps.inside.first; second = c.self-in-Stamps.inside.second } in v) e ∙ c.self-in-Stamps.view_is))

pub returns-in-Results-clause-refused : goal.returns-in-Results-clause-refused
returns-in-Results-clause-refused g c = map_err c.serve-in-Results.result _ _ c.serve-in-Results.ensures.err (λ e told h k.
    let y : NodesPartsState = record { store = c.self-in-Results.inside.store; stamps = c.self-in-Results.inside.stamps; results = c.serve-in-Results.new.self; first = c.self-in-Results.inside.first; second = c.self-in-Results.inside.second } in
    refused_same h c.args.session c.args.act.now c.args.self.now y
    (ap (λ z. let v : NodesPartsState = record { store = c.self-in-Results.inside.store; stamps = c.self-in-Results.inside.stamps; results = z; first = c.self-in-Results.inside.first; second = c.self-in-Results.inside.second } in v) e ∙ c.self-in-Results.view_is))

pub returns-in-Region-clause-refused : goal.returns-in-Region-clause-refused
returns-in-Region-clause-refused g c = map_err c.ask_region.result _ _ c.ask_region.ensures.err (λ e told h k. refused_same h c.args.session c.args.act.now c.args.self.now c.ask_region.new.self e)

pub returns-in-Registry-clause-passed : goal.returns-in-Registry-clause-passed
returns-in-Registry-clause-passed g c =
    ok_all c.begin.result _ (λ b. absurd (brings_none c.args.act.now c.args.session Part.Registry (sym c.part_of.ensures ∙ c.in-Registry.is) refl b))

pub returns-in-Store-clause-passed : goal.returns-in-Store-clause-passed
returns-in-Store-clause-passed g c = map_on c.serve.result _ _ c.serve.ensures.passed (λ p b told h k.
    let x : NodesPartsState = record { store = c.self.inside.store; stamps = c.self.inside.stamps; results = c.self.inside.results; first = c.self.inside.first; second = c.self.inside.second } in
    let y : NodesPartsState = record { store = c.serve.new.self; stamps = c.self.inside.stamps; results = c.self.inside.results; first = c.self.inside.first; second = c.self.inside.second } in
    let w : IsReady c.args.script.now told h c.args.node c.args.session c.args.now c.args.act.now x = subst (λ v. IsReady c.args.script.now told h c.args.node c.args.session c.args.now c.args.act.now v) (sym c.self.view_is) k in
    subst (λ v. IsRefused h c.args.session c.args.act.now v y) c.self.view_is
    (store_refused c.args.script.now told h c.args.node c.args.session c.args.now c.args.act.now x y w
    (p (store_reads c.args.act.now c.args.session (sym c.part_of.ensures ∙ c.in-Store.is) b)) refl refl refl refl))

pub returns-in-Stamps-clause-passed : goal.returns-in-Stamps-clause-passed
returns-in-Stamps-clause-passed g c =
    ok_all c.serve-in-Stamps.result _ (λ b. absurd (brings_none c.args.act.now c.args.session Part.Stamps (sym c.part_of.ensures ∙ c.in-Stamps.is) refl b))

pub returns-in-Results-clause-passed : goal.returns-in-Results-clause-passed
returns-in-Results-clause-passed g c =
    ok_all c.serve-in-Results.result _ (λ b. absurd (brings_none c.args.act.now c.args.session Part.Results (sym c.part_of.ensures ∙ c.in-Results.is) refl b))

pub returns-in-Region-clause-passed : goal.returns-in-Region-clause-passed
returns-in-Region-clause-passed g c = map_on c.ask_region.result _ _ c.ask_region.ensures.still (λ p b told h k.
    refused_same h c.args.session c.args.act.now c.args.self.now c.ask_region.new.self
    (p (region_reads c.args.act.now c.args.session c.in-Region.entity (sym c.part_of.ensures ∙ c.in-Region.is) b)))

pub returns-in-Own-clause-passed : goal.returns-in-Own-clause-passed
returns-in-Own-clause-passed g c = λ b told h k. refused_same h c.args.session c.args.act.now c.args.self.now c.args.self.now refl
