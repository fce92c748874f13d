use Rattle.std.proofs.Common.{subst}
use Rattle.hib_journal.specs.Kept.{past}
use Rattle.hib_live.specs.Live.{LiveState, IsLive}
use Rattle.hib_live.proofs.Given.{given}
use Rattle.hib_live.proofs.steps.LiveCore.lawful.Goals as goal

pub returns-clause-given : goal.returns-clause-given
returns-clause-given g c =
    let x : LiveState = c.args.self.now in
    let v : IsLive g.N.Name.script g.N.Name.from x = subst (λ (y : LiveState). IsLive g.N.Name.script g.N.Name.from y) c.self.view_is c.self.invariant in
    given c.hits_are_true.ensures.hits x.script g.N.Name.from.tables (past x.journal) v.declared v.run.legal
