use Rattle.std.proofs.Common.{◌≡◌, ◌≤◌, ◌^◌, Bool, true, false, length, Option, sym, ◌∙◌, ap, subst, arith}
use Rattle.hib_base.specs.Tables.{Tables}
use Rattle.hib_base.proofs.Valid.{rules}
use Rattle.hib_journal.specs.Kept.{Kept, past}
use Rattle.hib_journal.specs.Runs.{ask_count, name_identifiers}
use Rattle.hib_core.specs.Bound.{outside_count}
use Rattle.hib_core.specs.Factory.{AreOver}
use Rattle.hib_core.proofs.Evictions.{all_named}
use Rattle.hib_core.specs.Standing.{Origin, told_start}
use Rattle.hib_listeners.specs.Heard.{HaveHeard}
use Rattle.hib_listeners.specs.Told.{tells}
use Rattle.hib_top.specs.declared.telling.Played.{Played}
use Rattle.hib_top.specs.declared.turns.Turns.{Turns}
use Rattle.hib_top.specs.Running.{IsPlayed}
use Rattle.hib_call.proofs.Runs.{heard_either, once_more}
use Rattle.hib_top.proofs.Ends.{over, stopped, told_by}
use Rattle.hib_top.proofs.Finished.{all_ended}
use Rattle.hib_top.proofs.Formed.{early_enough, start_formed}
use Rattle.hib_top.proofs.work.work_named.Goals as goal
use Rattle.hib_top.proofs.work.work_named.Goals.{then-out_of_memory, else-out_of_memory}

pub returns : goal.returns
returns g c =
    let turns = Turns.OnWorkers c.args.workers in
    let h = past c.close-keeper.result.2 in
    let inside : outside_count h ≡ 0 = ap (λ (k : Kept). outside_count (past k)) c.close-keeper.ensures.journal ∙ c.work-factory.ensures.worked.inside in
    let few : length h ≤ 150000 = c.runs_are_short.ensures.few g.N.Name.script g.N.Name.from.tables h c.requires.valid c.close-keeper.ensures.legal (omega (arith, inside)) in
    let small : length h ≤ 2 ^ 61 = early_enough h few in
    let named : name_identifiers h ≡ true = all_named h inside in
    let played : IsPlayed turns g.N.Name.script g.N.Name.from.tables (g.K.Keeper.tables c.close-keeper.result.0) h =
    record {
      legal = c.close-keeper.ensures.legal;
      law = c.close-keeper.ensures.law;
      declared = (rules g.N.Name.script c.requires.valid).declared;
      ticked = c.close-keeper.ensures.numbered;
      few = few;
      named = named;
      formed = start_formed c.entries_are_formed.ensures.formed g.N.Name.script g.N.Name.from.tables h c.requires.valid small
          (c.ticks_are_early.ensures.early h c.close-keeper.ensures.numbered small) named c.close-keeper.ensures.legal;
      committed = c.close-keeper.ensures.rows;
    } in
    let start : told_start g.N.Name.script (g.K.Keeper.tables c.args.lent.keeper) ≡ g.N.Name.from.tables = ap (λ (o : Origin). o.tables) c.requires.from in
    let begun : IsPlayed turns g.N.Name.script (told_start g.N.Name.script (g.K.Keeper.tables c.args.lent.keeper)) (g.K.Keeper.tables c.close-keeper.result.0) h =
    subst (λ (t : Option Tables). IsPlayed turns g.N.Name.script t (g.K.Keeper.tables c.close-keeper.result.0) h) (sym start) played in
    let run : Played = record { script = c.close-keeper.result.1; journal = c.close-keeper.result.2 } in
    told_by turns g.N.Name.script g.N.Name.from g.N.Name.told _ _ _ c.requires.from c.requires.told
    (elim c.if-out_of_memory.branch [
      | then-out_of_memory w ↦ stopped turns g.N.Name.script _ _ run _ w.outcome-is
          record {
            of = c.close-keeper.ensures.script;
            played = begun;
            faults = c.close-keeper.ensures.faults;
            asked = once_more (λ (k : Kept). ask_count (past k)) _ _ _ _ _ c.close-keeper.ensures.count c.close-keeper.ensures.journal
                (c.work-factory.ensures.worked.asked c.in-Ok.ensures.going (sym c.work-factory.ensures.memory ∙ w.if-out_of_memory.true));
            listeners = heard_either _ _ _ _ c.close-keeper.ensures.heard;
          }
      | else-out_of_memory w ↦ (let going : c.work-factory.result.factory.refused ≡ false = sym c.work-factory.ensures.memory ∙ w.if-out_of_memory.false in
          over turns g.N.Name.script _ _ run _ w.outcome-is
          record {
            of = c.close-keeper.ensures.script;
            played = begun;
            faults = c.close-keeper.ensures.faults;
            asked = c.close-keeper.ensures.asked going;
            listeners = subst (λ (b : Bool). HaveHeard b c.close-keeper.result.2.list g.N.Name.told (tells g.L.Listener.heard g.L.Listener.left c.close-keeper.result.3.items)) (c.close-keeper.ensures.deaf going) c.close-keeper.ensures.heard;
          }
          (all_ended turns g.N.Name.script h (subst (λ (k : Kept). AreOver g.N.Name.script (past k)) (sym c.close-keeper.ensures.journal) (c.work-factory.ensures.over w.if-out_of_memory.false)) inside))
    ])
