use Rattle.std.proofs.Common.{◌≡◌, ◌≤◌, ◌<◌, ◌^◌, ℕ, false, [], length, Option, sym, ap, ◌∙◌, subst}
use Rattle.hib_base.specs.Tables.{Tables}
use Rattle.hib_base.specs.declared.scripts.Script.{Script}
use Rattle.hib_engines.specs.Engines.{AreStanding}
use Rattle.hib_engines.specs.Origin.{Origin, told_start}
use Rattle.hib_engines.proofs.Ready.{ready}
use Rattle.hib_session.specs.Sessions.{AreSessions}
use Rattle.hib_core.specs.Factory.{CoreState}
use Rattle.hib_core.proofs.Begun.{standing_begins}
use Rattle.hib_live.specs.Live.{IsLive}
use Rattle.hib_live.proofs.Goes.{live, opened_live}
use Rattle.hib_live.proofs.steps.LiveCore.open.Goals as goal

pub open_all-requires : goal.open_all-requires
open_all-requires g c = record { few = subst (λ (s : Script). length s.sessions < 2 ^ 32) (sym c.requires.script) (ready g.N.Name.script c.requires.valid).sessions }

pub invariant_of-result : goal.invariant_of-result
invariant_of-result g c =
    let q = c.requires.script in
    let script = g.N.Name.script in
    let from = g.N.Name.from in
    let kept : Option Tables = g.K.Keeper.tables c.args.keeper in
    let x = c.in_ok-engines.engines in
    let xs = c.in-Ok.sessions.items in
    let core : CoreState = record { journal = c.open-2.result; engines = x; sessions = xs; refused = false } in
    subst (λ (s : Script). IsLive script from (live s c.open-2.result x xs)) (sym q)
    (opened_live script from core c.requires.valid
    (standing_begins c.law.ensures.obeyed script from core c.requires.valid (ready script c.requires.valid) c.open-2.ensures.past
    (subst (λ (told : Option Tables). AreStanding script told [] x) (ap (λ (o : Origin). o.tables) c.requires.from)
    (subst (λ (s : Script). AreStanding s (told_start s kept) [] x) q c.in_ok-engines.ensures.standing))
    (subst (λ (s : Script). x.store.entities ≡ length s.mapping) q c.in_ok-engines.ensures.entities)
    (subst (λ (n : ℕ). n ≤ x.store.faults) (ap (λ (o : Origin). o.faults) c.requires.from) c.in_ok-engines.ensures.faults)
    (c.in_ok-engines.ensures.asked ∙ ap (λ (o : Origin). o.asked) c.requires.from)
    (subst (λ (s : Script). AreSessions s [] xs) q c.in-Ok.ensures)))
