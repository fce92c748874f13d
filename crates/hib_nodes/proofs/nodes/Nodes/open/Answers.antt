use Rattle.std.proofs.Common.{◌≤◌, ◌<◌, ◌^◌, ℕ, [], length, Option, sym, ap, ◌∙◌, subst}
use Rattle.hib_base.specs.Tables.{Tables}
use Rattle.hib_base.specs.declared.scripts.Script.{Script}
use Rattle.hib_session.specs.Sessions as Plainly
use Rattle.hib_engines.specs.Built.{IsBuilt}
use Rattle.hib_engines.specs.Origin.{Origin, told_start}
use Rattle.hib_engines.proofs.Ready.{ready}
use Rattle.hib_nodes_law.specs.Types.{Nodings}
use Rattle.hib_nodes.specs.Kept.{past}
use Rattle.hib_nodes.specs.Placed.{ArePlaced}
use Rattle.hib_nodes.specs.Queue.{AreQueues}
use Rattle.hib_nodes.specs.Standing.{AreStanding}
use Rattle.hib_nodes.proofs.Begun.{asked_begins, sessions_begin, shared_begins}
use Rattle.hib_nodes.proofs.nodes.Nodes.open.Goals as goal

pub open_all-requires : goal.open_all-requires
open_all-requires g c = record { few = subst (λ (s : Script). length s.sessions < 2 ^ 32) (sym c.requires.script) (ready g.N.Name.script c.requires.set.valid).sessions }

pub open_shared-requires : goal.open_shared-requires
open_shared-requires g c = record { built = subst (λ (s : Script). IsBuilt s) (sym c.requires.script) (ready g.N.Name.script c.requires.set.valid) }

pub invariant_of-result : goal.invariant_of-result
invariant_of-result g c =
    let q = c.requires.script in
    let script = g.N.Name.script in
    let places = g.N.Name.places in
    let from = g.N.Name.from in
    let kept : Option Tables = g.K.Keeper.tables c.args.keeper in
    let x = c.in_ok-shared.shared in
    let h = past x.journal in (
      q,
      c.requires.places,
      c.requires.orders,
      subst (λ (ps : Nodings). ArePlaced ps (length script.sessions) c.in-Ok.nodes.items) (c.as_slice.ensures ∙ c.requires.places)
          (subst (λ n. ArePlaced c.as_slice.result.now n c.in-Ok.nodes.items) (c.len.ensures ∙ ap (λ (s : Script). length s.sessions) q) c.in-Ok.ensures),
      shared_begins script places from x c.requires.set c.in_ok-shared.ensures.journal
          (subst (λ (o : Option Tables). AreStanding script o [] x.parts) (ap (λ (o : Origin). o.tables) c.requires.from)
          (subst (λ (s : Script). AreStanding s (told_start s kept) [] x.parts) q c.in_ok-shared.ensures.standing))
          (subst (λ (s : Script). AreQueues s [] x.queues) q c.in_ok-shared.ensures.queues)
          (subst (λ (n : ℕ). n ≤ x.parts.store.faults) (ap (λ (o : Origin). o.faults) c.requires.from) c.in_ok-shared.ensures.faults),
      sessions_begin script h c.in-Ok-open_all.sessions.items c.in_ok-shared.ensures.journal
          (subst (λ (s : Script). Plainly.AreSessions s [] c.in-Ok-open_all.sessions.items) q c.in-Ok-open_all.ensures),
      λ e. asked_begins from h x.parts c.in_ok-shared.ensures.journal (c.in_ok-shared.ensures.asked ∙ ap (λ (o : Origin). o.asked) c.requires.from),
    )
