use Rattle.std.proofs.Common.{sym, subst}
use Rattle.std.specs.Prelude.{slice_set}
use Rattle.hib_collections.specs.Kept.{past}
use Rattle.hib_collections.specs.Gatherers.{AreGatherers, IsGatherer}
use Rattle.hib_collections.proofs.AtTurn.{came, here}
use Rattle.hib_collections.proofs.turns.turn.Goals as goal

pub take_turn-requires-clause-member : goal.take_turn-requires-clause-member
take_turn-requires-clause-member g c =
    let u = c.index_mut-gatherer.result.now in
    let at = c.requires.sessions.each c.args.number u (here c.requires.sessions c.number.view_is c.requires.known c.index_mut-gatherer.ensures.value) in
    subst (λ n. IsGatherer g.N.Name.script (past c.args.shared.now.journal) n u) (sym at.number) at

pub returns-clause-run : goal.returns-clause-run
returns-clause-run g c =
    (came c.take_turn.new.gatherer c.requires.run c.requires.sessions (here c.requires.sessions c.number.view_is c.requires.known c.index_mut-gatherer.ensures.value) c.take_turn.ensures.ok c.take_turn.ensures.err).run

pub returns-clause-sessions : goal.returns-clause-sessions
returns-clause-sessions g c =
    let t = came c.take_turn.new.gatherer c.requires.run c.requires.sessions (here c.requires.sessions c.number.view_is c.requires.known c.index_mut-gatherer.ensures.value) c.take_turn.ensures.ok c.take_turn.ensures.err in
    subst (λ n. AreGatherers g.N.Name.script (past c.take_turn.new.shared.journal) (slice_set c.args.gatherers.now.items n c.take_turn.new.gatherer)) (sym c.number.view_is) t.sessions

pub returns-clause-ok : goal.returns-clause-ok
returns-clause-ok g c =
    (came c.take_turn.new.gatherer c.requires.run c.requires.sessions (here c.requires.sessions c.number.view_is c.requires.known c.index_mut-gatherer.ensures.value) c.take_turn.ensures.ok c.take_turn.ensures.err).does

pub returns-clause-same : goal.returns-clause-same
returns-clause-same g c =
    (came c.take_turn.new.gatherer c.requires.run c.requires.sessions (here c.requires.sessions c.number.view_is c.requires.known c.index_mut-gatherer.ensures.value) c.take_turn.ensures.ok c.take_turn.ensures.err).same

pub returns-clause-err : goal.returns-clause-err
returns-clause-err g c =
    (came c.take_turn.new.gatherer c.requires.run c.requires.sessions (here c.requires.sessions c.number.view_is c.requires.known c.index_mut-gatherer.ensures.value) c.take_turn.ensures.ok c.take_turn.ensures.err).err

pub returns-clause-counts : goal.returns-clause-counts
returns-clause-counts g c =
    (came c.take_turn.new.gatherer c.requires.run c.requires.sessions (here c.requires.sessions c.number.view_is c.requires.known c.index_mut-gatherer.ensures.value) c.take_turn.ensures.ok c.take_turn.ensures.err).counts
