use Rattle.std.proofs.Common.{◌≡◌, ℕ, true, [], Option, refl, sym, ◌∙◌, ap, subst}
use Rattle.hib_base.specs.Tables.{Tables}
use Rattle.hib_journal.specs.Runs.{told_committed, ask_count}
use Rattle.hib_engines.specs.Origin.{Origin, told_start}
use Rattle.hib_nodes_law.specs.declared.nodes.Places.{Places}
use Rattle.hib_nodes_law.specs.Nodes.{entries, queue}
use Rattle.hib_nodes.specs.Kept.{Kept, past}
use Rattle.hib_nodes.specs.Played.{AreOver, is_played}
use Rattle.hib_nodes.specs.Run.{Obeys}
use Rattle.hib_nodes.specs.Standing.{is_node}
use Rattle.hib_section_calls.specs.Placing.{placing}
use Rattle.hib_section_calls.specs.declared.nodes.NodeRun.{NodeRun}
use Rattle.hib_call.proofs.Runs.{once_more, run_over, run_stopped}
use Rattle.hib_section_calls.proofs.Places.{places_named, told_by}
use Rattle.hib_section_calls.proofs.nodes.nodes_named.Goals as goal
use Rattle.hib_section_calls.proofs.nodes.nodes_named.Goals.{in-Ok-finished, in-Err-finished}

pub returns : goal.returns
returns g c =
    let script = g.N.Name.script in
    let nodes = g.N.Name.places in
    let orders = g.N.Name.orders in
    let h = past c.close-keeper.result.3 in
    let kept = g.K.Keeper.tables c.close-keeper.result.0 in
    let start : told_start script (g.K.Keeper.tables c.args.lent.keeper) ≡ g.N.Name.from.tables = ap (λ (o : Origin). o.tables) c.requires.from in
    let places : ◌≡◌ {A = Places} c.close-keeper.result.2 (record { nodes = nodes; orders = orders }) =
    places_named c.close-keeper.result.2 nodes orders c.close-keeper.ensures.places c.close-keeper.ensures.orders in
    let obeys : Obeys script nodes (told_start script (g.K.Keeper.tables c.args.lent.keeper)) h =
    subst (λ (t : Option Tables). Obeys script nodes t h) (sym start) c.close-keeper.ensures.law in
    let rows : kept ≡ told_committed (told_start script (g.K.Keeper.tables c.args.lent.keeper)) (entries h) =
    subst (λ (t : Option Tables). kept ≡ told_committed t (entries h)) (sym start) c.close-keeper.ensures.rows in
    let run : NodeRun = record { script = c.close-keeper.result.1; places = c.close-keeper.result.2; journal = c.close-keeper.result.3 } in
    told_by c.args.input script nodes orders g.N.Name.from _ _ _ c.requires.script c.requires.places c.requires.orders c.requires.from
    (elim c.match-finished.branch [
      | in-Ok-finished w ↦ run_over placing _ _ _ run _ w.outcome-is
          record {
            noded = record {
              script = c.close-keeper.ensures.script;
              places = places;
              obeys = obeys;
              rows = rows;
              faults = c.close-keeper.ensures.faults;
              asked = c.close-keeper.ensures.asked (w.in-Ok-finished.ensures.going ∙ c.in-Ok.ensures.going);
              listeners = refl;
            };
            over = subst (λ (k : Kept). AreOver script (past k)) (sym c.close-keeper.ensures.journal) w.in-Ok-finished.ensures.over;
            empty = subst (λ (k : Kept). (n : ℕ) → is_node n ≡ true → queue script n (past k) ≡ []) (sym c.close-keeper.ensures.journal) w.in-Ok-finished.ensures.empty;
            played = subst (λ (k : Kept). is_played script orders (past k) ≡ true) (sym c.close-keeper.ensures.journal) (w.in-Ok-finished.ensures.played c.in-Ok.ensures.empty);
          }
      | in-Err-finished w ↦ run_stopped placing _ _ _ run _ w.outcome-is
          record {
            script = c.close-keeper.ensures.script;
            places = places;
            obeys = obeys;
            rows = rows;
            faults = c.close-keeper.ensures.faults;
            asked = once_more (λ (k : Kept). ask_count (entries (past k))) _ _ _ _ _ c.close-keeper.ensures.count c.close-keeper.ensures.journal (w.in-Err-finished.ensures.asked c.in-Ok.ensures.going);
            listeners = refl;
          }
    ])
