use Rattle.std.proofs.Common.{◌≡◌, ◌≤◌, ◌<◌, ◌^◌, ℕ, [], length, map, ap, sym, ◌∙◌, subst}
use Rattle.hib_base.specs.declared.scripts.Script.{Script}
use Rattle.hib_base.specs.Tables.{Tables}
use Rattle.std.specs.Prelude.{Option}
use Rattle.hib_session.specs.Sessions as Plainly
use Rattle.hib_engines.specs.Origin.{Origin, told_start}
use Rattle.hib_engines.proofs.Ready.{ready}
use Rattle.hib_bulk.specs.Standing.{AreStanding}
use Rattle.hib_bulk.specs.Run.{AreBuilt}
use Rattle.hib_bulk.specs.Steps.{fresh}
use Rattle.hib_bulk.proofs.Begun.{built_of, factory_begins, sessions_begin}
use Rattle.hib_bulk.proofs.factory.BulkFactory.open.Goals as goal

pub open_all-requires : goal.open_all-requires
open_all-requires g c = record { few = subst (λ (s : Script). length s.sessions < 2 ^ 32) (sym c.requires.script) (ready g.N.Name.script c.requires.set.valid).sessions }

pub open-requires-clause-entities : goal.open-requires-clause-entities
open-requires-clause-entities g c = subst (λ (s : Script). length s.mapping < 2 ^ 16) (sym c.requires.script) (ready g.N.Name.script c.requires.set.valid).entities

pub open-requires-clause-results : goal.open-requires-clause-results
open-requires-clause-results g c = subst (λ (s : Script). 0 < s.results) (sym c.requires.script) (ready g.N.Name.script c.requires.set.valid).results

pub invariant_of-result : goal.invariant_of-result
invariant_of-result g c =
    let q = c.requires.script in
    let from = c.requires.from in
    let script = g.N.Name.script in
    let lines = g.N.Name.lines in
    let built : AreBuilt script lines = built_of script lines c.requires.set in
    let kept = g.K.Keeper.tables c.args.keeper in
    let parts = c.in_ok-parts.parts in
    let xs = c.in-Ok.sessions.items in
    let began = subst (λ (s : Script). AreBuilt s lines → AreStanding s lines (told_start s kept) [] parts) q (c.in_ok-parts.ensures.standing lines) built in (
      q,
      c.requires.lines,
      c.requires.orders,
      factory_begins script lines g.N.Name.from _ built c.open-2.ensures.past
          (subst (λ (t : Option Tables). AreStanding script lines t [] parts) (ap (λ (o : Origin). o.tables) from) began)
          c.in_ok-parts.ensures.ordered
          (subst (λ (n : ℕ). n ≤ parts.store.faults) (ap (λ (o : Origin). o.faults) from) c.in_ok-parts.ensures.faults)
          (c.in_ok-parts.ensures.entities ∙ ap (λ (s : Script). length s.mapping) q)
          (sessions_begin script xs (subst (λ (s : Script). Plainly.AreSessions s [] xs) q c.in-Ok.ensures))
          (c.in-Ok-open_lines.ensures ∙ ap (map fresh) (c.as_slice.ensures ∙ c.requires.lines)),
    )
