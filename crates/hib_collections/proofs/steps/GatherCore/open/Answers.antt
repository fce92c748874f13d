use Rattle.std.proofs.Common.{◌≡◌, ◌≤◌, ◌<◌, ◌^◌, ℕ, true, List, [], length, Some, Option, sym, ap, ◌∙◌, subst}
use Rattle.hib_base.specs.Tables.{Tables, in_order}
use Rattle.hib_base.specs.declared.scripts.Script.{Script}
use Rattle.hib_engines.specs.Engines.{AreStanding}
use Rattle.hib_engines.specs.Origin.{Origin, told_start}
use Rattle.hib_engines.proofs.Ready.{ready}
use Rattle.hib_collections_law.specs.declared.entries.Def.{Def}
use Rattle.hib_collections.specs.Collected.{AreCollected}
use Rattle.hib_collections.specs.Gatherers.{AreGatherers}
use Rattle.hib_collections.proofs.Begun.{asked_begins, run_begins, start_ordered}
use Rattle.hib_collections.specs.Kept.{past}
use Rattle.hib_collections.proofs.steps.GatherCore.open.Goals as goal

pub open_all-requires : goal.open_all-requires
open_all-requires g c = record { few = subst (λ (s : Script). length s.sessions < 2 ^ 32) (sym c.requires.script) (ready g.N.Name.script c.requires.set.valid).sessions }

pub invariant_of-result : goal.invariant_of-result
invariant_of-result g c =
    let q = c.requires.script in
    let script = g.N.Name.script in
    let defs = g.N.Name.defs in
    let from = g.N.Name.from in
    let kept : Option Tables = g.K.Keeper.tables c.args.keeper in
    let x = c.in_ok-engines.engines in
    let told = ap (λ (o : Origin). o.tables) c.requires.from in (
      q,
      c.requires.defs,
      run_begins script defs from (past c.open-2.result) x c.in-Ok.regions.items c.open-2.ensures.past c.requires.set
          (subst (λ (o : Option Tables). AreStanding script o [] x) told (subst (λ (s : Script). AreStanding s (told_start s kept) [] x) q c.in_ok-engines.ensures.standing))
          (subst (λ (ds : List Def). AreCollected script ds [] c.in-Ok.regions.items) c.requires.defs (subst (λ (s : Script). AreCollected s c.args.defs [] c.in-Ok.regions.items) q c.in-Ok.ensures))
          (subst (λ (o : Option Tables). (start : Tables) → o ≡ Some start → in_order start ≡ true) told (start_ordered script kept (g.met.K.Keeper.ordered c.args.keeper)))
          (subst (λ (n : ℕ). n ≤ x.store.faults) (ap (λ (o : Origin). o.faults) c.requires.from) c.in_ok-engines.ensures.faults),
      subst (λ h. AreGatherers script h c.in-Ok-open_all.gatherers.items) (sym c.open-2.ensures.past) (subst (λ (s : Script). AreGatherers s [] c.in-Ok-open_all.gatherers.items) q c.in-Ok-open_all.ensures),
      λ e. asked_begins script from (past c.open-2.result) x c.open-2.ensures.past (c.in_ok-engines.ensures.asked ∙ ap (λ (o : Origin). o.asked) c.requires.from),
    )
