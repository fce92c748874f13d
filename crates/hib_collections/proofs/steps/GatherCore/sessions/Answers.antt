use Rattle.std.specs.Prelude.{is_some}
use Rattle.std.proofs.Common.{◌≡◌, false, ap, subst}
use Rattle.hib_journal.specs.Sessions.{own}
use Rattle.hib_collections_law.specs.Gathered.{plain}
use Rattle.hib_collections.specs.Kept.{past}
use Rattle.hib_collections.specs.Played.{has_next}
use Rattle.hib_collections.specs.Run.{GatherCoreState}
use Rattle.hib_collections.proofs.Playing.{unknown}
use Rattle.hib_collections.proofs.steps.GatherCore.sessions.Goals as goal

pub returns-clause-unknown : goal.returns-clause-unknown
returns-clause-unknown g c = λ s l.
    let script = g.N.Name.script in
    let h = past c.self.inside.shared.journal in
    let run = c.self.invariant.2 in
    subst (λ (v : GatherCoreState). has_next script g.N.Name.defs (past v.journal) s ≡ false) c.self.view_is
    (ap is_some (c.sessions_end.ensures.over script g.N.Name.defs g.N.Name.from.tables s h run.gathered run.set.valid (unknown script s (own s (plain script h)) l)))
