use Rattle.std.proofs.Common.{◌≡◌, ◌≤◌, ◌^◌, Bool, true, false, length, Option, refl, sym, ◌∙◌, ap, subst, arith}
use Rattle.hib_base.specs.Tables.{Tables}
use Rattle.hib_base.proofs.Valid.{rules}
use Rattle.hib_journal.specs.Kept.{Kept, past}
use Rattle.hib_journal.specs.Played.{is_played}
use Rattle.hib_journal.specs.Sessions.{Journal}
use Rattle.hib_journal.specs.Runs.{ask_count, name_identifiers}
use Rattle.hib_core.specs.Bound.{outside_count}
use Rattle.hib_core.specs.Factory.{AreOver}
use Rattle.hib_core.specs.Standing.{Origin, told_start}
use Rattle.hib_listeners.specs.Heard.{HaveHeard}
use Rattle.hib_listeners.specs.Told.{tells}
use Rattle.hib_top.specs.declared.telling.Played.{Played}
use Rattle.hib_top.specs.declared.turns.Turns.{Turns}
use Rattle.hib_top.specs.Running.{IsPlayed}
use Rattle.hib_call.proofs.Runs.{heard_either, once_more}
use Rattle.hib_top.proofs.Ends.{over, stopped, told_by}
use Rattle.hib_top.proofs.Finished.{all_ended}
use Rattle.hib_top.proofs.Formed.{early_enough, start_formed}
use Rattle.hib_top.proofs.play.play_named.Goals as goal
use Rattle.hib_top.proofs.play.play_named.Goals.{in-Ok-finished, in-Err-finished}

pub returns : goal.returns
returns g c =
    let turns = Turns.Scheduled in
    let h = past c.close-keeper.result.2 in
    let outside : outside_count h ≤ length g.N.Name.script.schedule =
    omega (
      arith,
      c.play-finished.ensures.outside,
      ap outside_count c.in-Ok.ensures.empty,
      ap (λ (k : Kept). outside_count (past k)) c.close-keeper.ensures.journal,
    ) in
    let few : length h ≤ 150000 = c.runs_are_short.ensures.few g.N.Name.script g.N.Name.from.tables h c.requires.valid c.close-keeper.ensures.legal outside in
    let small : length h ≤ 2 ^ 61 = early_enough h few in
    let named : name_identifiers h ≡ true = subst (λ (k : Kept). name_identifiers (past k) ≡ true) (sym c.close-keeper.ensures.journal)
    (c.play-finished.ensures.named (subst (λ (j : Journal). name_identifiers j ≡ true) (sym c.in-Ok.ensures.empty) refl)) in
    let played : IsPlayed turns g.N.Name.script g.N.Name.from.tables (g.K.Keeper.tables c.close-keeper.result.0) h =
    record {
      legal = c.close-keeper.ensures.legal;
      law = c.close-keeper.ensures.law;
      declared = (rules g.N.Name.script c.requires.valid).declared;
      ticked = c.close-keeper.ensures.numbered;
      few = few;
      named = named;
      formed = start_formed c.entries_are_formed.ensures.formed g.N.Name.script g.N.Name.from.tables h c.requires.valid small
          (c.ticks_are_early.ensures.early h c.close-keeper.ensures.numbered small) named c.close-keeper.ensures.legal;
      committed = c.close-keeper.ensures.rows;
    } in
    let start : told_start g.N.Name.script (g.K.Keeper.tables c.args.lent.keeper) ≡ g.N.Name.from.tables = ap (λ (o : Origin). o.tables) c.requires.from in
    let begun : IsPlayed turns g.N.Name.script (told_start g.N.Name.script (g.K.Keeper.tables c.args.lent.keeper)) (g.K.Keeper.tables c.close-keeper.result.0) h =
    subst (λ (t : Option Tables). IsPlayed turns g.N.Name.script t (g.K.Keeper.tables c.close-keeper.result.0) h) (sym start) played in
    let run : Played = record { script = c.close-keeper.result.1; journal = c.close-keeper.result.2 } in
    told_by turns g.N.Name.script g.N.Name.from g.N.Name.told _ _ _ c.requires.from c.requires.told
    (elim c.match-finished.branch [
      | in-Ok-finished w ↦ (let going : c.play-finished.new.self.refused ≡ false = w.in-Ok-finished.ensures.going ∙ c.in-Ok.ensures.going in
          let ordered : is_played g.N.Name.script h ≡ true =
          subst (λ (k : Kept). is_played g.N.Name.script (past k) ≡ true) (sym c.close-keeper.ensures.journal) (w.in-Ok-finished.ensures.played c.in-Ok.ensures.empty) in
          over turns g.N.Name.script _ _ run _ w.outcome-is
          record {
            of = c.close-keeper.ensures.script;
            played = begun;
            faults = c.close-keeper.ensures.faults;
            asked = c.close-keeper.ensures.asked going;
            listeners = subst (λ (b : Bool). HaveHeard b c.close-keeper.result.2.list g.N.Name.told (tells g.L.Listener.heard g.L.Listener.left c.close-keeper.result.3.items)) (c.close-keeper.ensures.deaf going) c.close-keeper.ensures.heard;
          }
          (all_ended turns g.N.Name.script h (subst (λ (k : Kept). AreOver g.N.Name.script (past k)) (sym c.close-keeper.ensures.journal) (w.in-Ok-finished.ensures.over)) ordered))
      | in-Err-finished w ↦ stopped turns g.N.Name.script _ _ run _ w.outcome-is
          record {
            of = c.close-keeper.ensures.script;
            played = begun;
            faults = c.close-keeper.ensures.faults;
            asked = once_more (λ (k : Kept). ask_count (past k)) _ _ _ _ _ c.close-keeper.ensures.count c.close-keeper.ensures.journal (w.in-Err-finished.ensures.asked c.in-Ok.ensures.going);
            listeners = heard_either _ _ _ _ c.close-keeper.ensures.heard;
          }
    ])
