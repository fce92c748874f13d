use Rattle.std.proofs.Common.{◌≡◌, ◌∷◌, ap, ◌∙◌, subst}
use Rattle.hib_bulk.specs.Types.{BulkAct, BulkReply, BulkEntry}
use Rattle.hib_bulk_law.specs.Plain.{Bulked}
use Rattle.hib_bulk.specs.Kept.{past}
use Rattle.hib_bulk.specs.Regions.{region_of, swept}
use Rattle.hib_bulk.specs.Standing.{entry_at}
use Rattle.hib_bulk.proofs.Moved.{sweeps_of}
use Rattle.hib_bulk.proofs.turns.sweep.Goals as goal

pub returns-clause-ok : goal.returns-clause-ok
returns-clause-ok g c =
    let h = past c.args.journal.now in
    let k = c.args.key in
    let t = c.in_ok-tick.ensures.tick in
    sweeps_of c.laws.ensures c.grows.ensures.sweep c.stays.ensures.elsewhere c.answers.ensures.old g.N.Name.script g.N.Name.lines g.N.Name.from h (past c.push.new.self) c.args.session k c.args.parts.now c.sweep.new.self
    c.requires.run c.requires.due c.requires.old c.in_ok-tick.ensures.few
    (subst (λ i. region_of c.sweep.new.self.regions k.entity ≡ swept (region_of c.args.parts.now.regions k.entity) k.id i) t c.sweep.ensures.here) c.sweep.ensures.others c.sweep.ensures.same
    (c.push.ensures ∙ ap (λ (j : Bulked). c.sweep_entry-entry.result ∷ j) c.in_ok-tick.ensures.same
    ∙ ap (λ (e : BulkEntry). e ∷ h) (c.sweep_entry-entry.ensures ∙ ap (λ i. entry_at i c.args.session (BulkAct.Sweep k) BulkReply.Swept) t))
