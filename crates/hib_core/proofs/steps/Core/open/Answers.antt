use Rattle.std.proofs.Common.{◌≡◌, ◌≤◌, ◌<◌, ◌^◌, ℕ, [], length, sym, ap, ◌∙◌, subst}
use Rattle.hib_base.specs.Tables.{Tables}
use Rattle.hib_base.specs.declared.scripts.Script.{Script}
use Rattle.hib_engines.specs.Engines.{AreStanding}
use Rattle.hib_engines.specs.Origin.{Origin, told_start}
use Rattle.hib_engines.proofs.Ready.{ready}
use Rattle.hib_session.specs.Sessions.{AreSessions}
use Rattle.hib_core.proofs.Begun.{standing_begins}
use Rattle.hib_core.proofs.steps.Core.open.Goals as goal

pub open_all-requires : goal.open_all-requires
open_all-requires g c = record { few = subst (λ (s : Script). length s.sessions < 2 ^ 32) (sym c.requires.script) (ready g.N.Name.script c.requires.valid).sessions }

pub invariant_of-result : goal.invariant_of-result
invariant_of-result g c =
    let q = c.requires.script in
    let from = c.requires.from in
    let kept : Rattle.std.specs.Prelude.Option Tables = g.K.Keeper.tables c.args.keeper in (
      q,
      standing_begins c.law.ensures.obeyed g.N.Name.script g.N.Name.from _ c.requires.valid (ready g.N.Name.script c.requires.valid) c.open_for-journal.ensures.past
          (subst (λ (told : Rattle.std.specs.Prelude.Option Tables). AreStanding g.N.Name.script told [] c.in_ok-engines.engines) (ap (λ (o : Origin). o.tables) from)
          (subst (λ (s : Script). AreStanding s (told_start s kept) [] c.in_ok-engines.engines) q c.in_ok-engines.ensures.standing))
          (subst (λ (s : Script). c.in_ok-engines.engines.store.entities ≡ length s.mapping) q c.in_ok-engines.ensures.entities)
          (subst (λ (n : ℕ). n ≤ c.in_ok-engines.engines.store.faults) (ap (λ (o : Origin). o.faults) from) c.in_ok-engines.ensures.faults)
          (c.in_ok-engines.ensures.asked ∙ ap (λ (o : Origin). o.asked) from)
          (subst (λ (s : Script). AreSessions s [] c.in-Ok.sessions.items) q c.in-Ok.ensures),
    )
