use Rattle.std.proofs.Common.{◌≡◌, Bool, true, false, Option, sym, ◌∙◌, ap, subst}
use Rattle.hib_base.specs.Tables.{Tables}
use Rattle.hib_journal.specs.Runs.{told_committed}
use Rattle.hib_engines.specs.Origin.{Origin, told_start}
use Rattle.hib_collections_law.specs.Gathered.{plain}
use Rattle.hib_collections.specs.Gather.{heard_in}
use Rattle.hib_collections.specs.Kept.{Kept, past}
use Rattle.hib_collections.specs.Obeyed.{Obeys}
use Rattle.hib_collections.specs.Run.{ask_count}
use Rattle.hib_collections.specs.Played.{AreOver, is_played}
use Rattle.hib_listeners.specs.Heard.{HaveHeard}
use Rattle.hib_listeners.specs.Told.{tells}
use Rattle.hib_section_calls.specs.declared.collect.Collected.{Collected}
use Rattle.hib_section_calls.specs.Collecting.{collecting}
use Rattle.hib_call.proofs.Runs.{heard_either, once_more, run_over, run_stopped}
use Rattle.hib_section_calls.proofs.Gathers.{told_by}
use Rattle.hib_section_calls.proofs.collect.collect_named.Goals as goal
use Rattle.hib_section_calls.proofs.collect.collect_named.Goals.{in-Ok-finished, in-Err-finished}

pub returns : goal.returns
returns g c =
    let script = g.N.Name.script in
    let defs = g.N.Name.defs in
    let h = past c.close-keeper.result.3 in
    let kept = g.K.Keeper.tables c.close-keeper.result.0 in
    let start : told_start script (g.K.Keeper.tables c.args.lent.keeper) ≡ g.N.Name.from.tables = ap (λ (o : Origin). o.tables) c.requires.from in
    let obeys : Obeys script defs (told_start script (g.K.Keeper.tables c.args.lent.keeper)) h =
    subst (λ (t : Option Tables). Obeys script defs t h) (sym start) c.close-keeper.ensures.law in
    let rows : kept ≡ told_committed (told_start script (g.K.Keeper.tables c.args.lent.keeper)) (plain script h) =
    subst (λ (t : Option Tables). kept ≡ told_committed t (plain script h)) (sym start) c.close-keeper.ensures.rows in
    let run : Collected = record { script = c.close-keeper.result.1; defs = c.close-keeper.result.2; journal = c.close-keeper.result.3 } in
    told_by c.args.input script defs g.N.Name.from g.N.Name.told _ _ _ c.requires.script c.requires.defs c.requires.from c.requires.told
    (elim c.match-finished.branch [
      | in-Ok-finished w ↦ (let going : c.play-finished.new.self.refused ≡ false = w.in-Ok-finished.ensures.going ∙ c.in-Ok.ensures.going in
          run_over collecting _ _ _ run _ w.outcome-is
          record {
            collected = record {
              script = c.close-keeper.ensures.script;
              defs = c.close-keeper.ensures.defs;
              obeys = obeys;
              rows = rows;
              faults = c.close-keeper.ensures.faults;
              asked = c.close-keeper.ensures.asked going;
              listeners = subst (λ (b : Bool). HaveHeard b (heard_in script h) g.N.Name.told (tells g.L.Listener.heard g.L.Listener.left c.close-keeper.result.4.items)) (c.close-keeper.ensures.deaf going) c.close-keeper.ensures.heard;
            };
            over = subst (λ (k : Kept). AreOver script defs (past k)) (sym c.close-keeper.ensures.journal) w.in-Ok-finished.ensures.over;
            played = subst (λ (k : Kept). is_played script defs (past k) ≡ true) (sym c.close-keeper.ensures.journal) (w.in-Ok-finished.ensures.played c.in-Ok.ensures.empty);
          })
      | in-Err-finished w ↦ run_stopped collecting _ _ _ run _ w.outcome-is
          record {
            script = c.close-keeper.ensures.script;
            defs = c.close-keeper.ensures.defs;
            obeys = obeys;
            rows = rows;
            faults = c.close-keeper.ensures.faults;
            asked = once_more (λ (k : Kept). ask_count script (past k)) _ _ _ _ _ c.close-keeper.ensures.count c.close-keeper.ensures.journal (w.in-Err-finished.ensures.asked c.in-Ok.ensures.going);
            listeners = heard_either _ _ _ _ c.close-keeper.ensures.heard;
          }
    ])
