use Rattle.std.proofs.Common.{◌≡◌, true, Option, refl, sym, ap, subst}
use Rattle.hib_base.specs.Tables.{Tables}
use Rattle.hib_engines.specs.Origin.{Origin, told_start}
use Rattle.hib_bulk_law.specs.Legal.{IsLegal}
use Rattle.hib_bulk.specs.Kept.{Kept, past}
use Rattle.hib_bulk.specs.Played.{AreOver, is_played}
use Rattle.hib_bulk.specs.Run.{Obeys}
use Rattle.hib_bulk.specs.Standing.{told_committed}
use Rattle.hib_bulk_law.specs.declared.bulks.Bulks.{Bulks}
use Rattle.hib_section_calls.specs.declared.bulk.BulkRun.{BulkRun}
use Rattle.hib_section_calls.specs.Bulking.{bulking}
use Rattle.hib_section_calls.proofs.Bulks.{bulks_named, told_by}
use Rattle.hib_call.proofs.Runs.{run_over, run_stopped}
use Rattle.hib_section_calls.proofs.bulk.bulk_named.Goals as goal
use Rattle.hib_section_calls.proofs.bulk.bulk_named.Goals.{in-Ok-finished, in-Err-finished}

pub returns : goal.returns
returns g c =
    let script = g.N.Name.script in
    let lines = g.N.Name.lines in
    let orders = g.N.Name.orders in
    let h = past c.close-keeper.result.3 in
    let kept = g.K.Keeper.tables c.close-keeper.result.0 in
    let start : told_start script (g.K.Keeper.tables c.args.lent.keeper) ≡ g.N.Name.from.tables = ap (λ (o : Origin). o.tables) c.requires.from in
    let bulks : ◌≡◌ {A = Bulks} c.close-keeper.result.2 (record { lines = lines; orders = orders }) =
    bulks_named c.close-keeper.result.2 lines orders c.close-keeper.ensures.lines c.close-keeper.ensures.orders in
    let legal : IsLegal script lines (told_start script (g.K.Keeper.tables c.args.lent.keeper)) h =
    subst (λ (t : Option Tables). IsLegal script lines t h) (sym start) c.close-keeper.ensures.legal in
    let obeys : Obeys script lines (told_start script (g.K.Keeper.tables c.args.lent.keeper)) h =
    subst (λ (t : Option Tables). Obeys script lines t h) (sym start) c.close-keeper.ensures.law in
    let rows : kept ≡ told_committed script lines (told_start script (g.K.Keeper.tables c.args.lent.keeper)) h =
    subst (λ (t : Option Tables). kept ≡ told_committed script lines t h) (sym start) c.close-keeper.ensures.rows in
    let run : BulkRun = record { script = c.close-keeper.result.1; bulks = c.close-keeper.result.2; journal = c.close-keeper.result.3 } in
    told_by c.args.input script lines orders g.N.Name.from _ _ _ c.requires.script c.requires.lines c.requires.orders c.requires.from
    (elim c.match-finished.branch [
      | in-Ok-finished w ↦ run_over bulking _ _ _ run _ w.outcome-is
          record {
            bulked = record {
              script = c.close-keeper.ensures.script;
              bulks = bulks;
              legal = legal;
              obeys = obeys;
              rows = rows;
              faults = c.close-keeper.ensures.faults;
              listeners = refl;
            };
            over = subst (λ (k : Kept). AreOver script lines (past k)) (sym c.close-keeper.ensures.journal) w.in-Ok-finished.ensures.over;
            played = subst (λ (k : Kept). is_played script lines orders (past k) ≡ true) (sym c.close-keeper.ensures.journal) (w.in-Ok-finished.ensures.played c.in-Ok.ensures.empty);
          }
      | in-Err-finished w ↦ run_stopped bulking _ _ _ run _ w.outcome-is
          record {
            script = c.close-keeper.ensures.script;
            bulks = bulks;
            legal = legal;
            obeys = obeys;
            rows = rows;
            faults = c.close-keeper.ensures.faults;
            listeners = refl;
          }
    ])
