use Rattle.std.proofs.Common.{sym, subst, ◌∙◌}
use Rattle.std.specs.Prelude.{slice_set}
use Rattle.hib_journal.specs.Kept.{past}
use Rattle.hib_session.specs.Sessions.{AreSessions}
use Rattle.hib_core.specs.Factory.{Does}
use Rattle.hib_core.proofs.Going.{at_place, member_of}
use Rattle.hib_core.proofs.Moved.{turned}
use Rattle.hib_core.proofs.turns.turn.Goals as goal

pub take_turn-requires-clause-member : goal.take_turn-requires-clause-member
take_turn-requires-clause-member g c =
    let place = at_place g.N.Name.script (past c.args.journal.now) c.args.sessions.now.items c.number.inside.0 c.args.number c.index_mut-session.result.now c.requires.sessions c.number.view_is c.requires.known c.index_mut-session.ensures.value in
    member_of g.N.Name.script (past c.args.journal.now) c.args.sessions.now.items c.args.number c.index_mut-session.result.now c.requires.sessions place

pub returns-clause-run : goal.returns-clause-run
returns-clause-run g c =
    let script = g.N.Name.script in
    let from = g.N.Name.from in
    let h = past c.args.journal.now in
    let xs = c.args.sessions.now.items in
    let y = c.index_mut-session.result.now in
    let z = c.take_turn.new.session in
    let place = at_place script h xs c.number.inside.0 c.args.number y c.requires.sessions c.number.view_is c.requires.known c.index_mut-session.ensures.value in
    let t = turned script from c.args.number c.take_turn.result h (past c.take_turn.new.journal) c.args.engines.now c.take_turn.new.engines xs y z c.requires.run c.requires.sessions place
    c.take_turn.ensures.number c.take_turn.ensures.killed c.take_turn.ensures.did c.take_turn.ensures.done c.take_turn.ensures.quiet c.take_turn.ensures.still in
    t.run

pub returns-clause-sessions : goal.returns-clause-sessions
returns-clause-sessions g c =
    let script = g.N.Name.script in
    let from = g.N.Name.from in
    let h = past c.args.journal.now in
    let xs = c.args.sessions.now.items in
    let y = c.index_mut-session.result.now in
    let z = c.take_turn.new.session in
    let place = at_place script h xs c.number.inside.0 c.args.number y c.requires.sessions c.number.view_is c.requires.known c.index_mut-session.ensures.value in
    let t = turned script from c.args.number c.take_turn.result h (past c.take_turn.new.journal) c.args.engines.now c.take_turn.new.engines xs y z c.requires.run c.requires.sessions place
    c.take_turn.ensures.number c.take_turn.ensures.killed c.take_turn.ensures.did c.take_turn.ensures.done c.take_turn.ensures.quiet c.take_turn.ensures.still in
    subst (λ n. AreSessions script (past c.take_turn.new.journal) (slice_set xs n z)) (sym c.number.view_is) t.sessions

pub returns-clause-did : goal.returns-clause-did
returns-clause-did g c =
    let script = g.N.Name.script in
    let from = g.N.Name.from in
    let h = past c.args.journal.now in
    let xs = c.args.sessions.now.items in
    let y = c.index_mut-session.result.now in
    let z = c.take_turn.new.session in
    let place = at_place script h xs c.number.inside.0 c.args.number y c.requires.sessions c.number.view_is c.requires.known c.index_mut-session.ensures.value in
    let t = turned script from c.args.number c.take_turn.result h (past c.take_turn.new.journal) c.args.engines.now c.take_turn.new.engines xs y z c.requires.run c.requires.sessions place
    c.take_turn.ensures.number c.take_turn.ensures.killed c.take_turn.ensures.did c.take_turn.ensures.done c.take_turn.ensures.quiet c.take_turn.ensures.still in
    λ e. subst (λ n. Does script c.args.number h (past c.take_turn.new.journal) xs (slice_set xs n z)) (sym c.number.view_is) (t.did e)

pub returns-clause-done : goal.returns-clause-done
returns-clause-done g c =
    let script = g.N.Name.script in
    let from = g.N.Name.from in
    let h = past c.args.journal.now in
    let xs = c.args.sessions.now.items in
    let y = c.index_mut-session.result.now in
    let z = c.take_turn.new.session in
    let place = at_place script h xs c.number.inside.0 c.args.number y c.requires.sessions c.number.view_is c.requires.known c.index_mut-session.ensures.value in
    let t = turned script from c.args.number c.take_turn.result h (past c.take_turn.new.journal) c.args.engines.now c.take_turn.new.engines xs y z c.requires.run c.requires.sessions place
    c.take_turn.ensures.number c.take_turn.ensures.killed c.take_turn.ensures.did c.take_turn.ensures.done c.take_turn.ensures.quiet c.take_turn.ensures.still in
    t.done

pub returns-clause-same : goal.returns-clause-same
returns-clause-same g c =
    let script = g.N.Name.script in
    let from = g.N.Name.from in
    let h = past c.args.journal.now in
    let xs = c.args.sessions.now.items in
    let y = c.index_mut-session.result.now in
    let z = c.take_turn.new.session in
    let place = at_place script h xs c.number.inside.0 c.args.number y c.requires.sessions c.number.view_is c.requires.known c.index_mut-session.ensures.value in
    let t = turned script from c.args.number c.take_turn.result h (past c.take_turn.new.journal) c.args.engines.now c.take_turn.new.engines xs y z c.requires.run c.requires.sessions place
    c.take_turn.ensures.number c.take_turn.ensures.killed c.take_turn.ensures.did c.take_turn.ensures.done c.take_turn.ensures.quiet c.take_turn.ensures.still in
    t.same

pub returns-clause-err : goal.returns-clause-err
returns-clause-err g c =
    let script = g.N.Name.script in
    let from = g.N.Name.from in
    let h = past c.args.journal.now in
    let xs = c.args.sessions.now.items in
    let y = c.index_mut-session.result.now in
    let z = c.take_turn.new.session in
    let place = at_place script h xs c.number.inside.0 c.args.number y c.requires.sessions c.number.view_is c.requires.known c.index_mut-session.ensures.value in
    let t = turned script from c.args.number c.take_turn.result h (past c.take_turn.new.journal) c.args.engines.now c.take_turn.new.engines xs y z c.requires.run c.requires.sessions place
    c.take_turn.ensures.number c.take_turn.ensures.killed c.take_turn.ensures.did c.take_turn.ensures.done c.take_turn.ensures.quiet c.take_turn.ensures.still in
    t.err

pub returns-clause-counts : goal.returns-clause-counts
returns-clause-counts g c =
    let script = g.N.Name.script in
    let from = g.N.Name.from in
    let h = past c.args.journal.now in
    let xs = c.args.sessions.now.items in
    let y = c.index_mut-session.result.now in
    let z = c.take_turn.new.session in
    let place = at_place script h xs c.number.inside.0 c.args.number y c.requires.sessions c.number.view_is c.requires.known c.index_mut-session.ensures.value in
    let t = turned script from c.args.number c.take_turn.result h (past c.take_turn.new.journal) c.args.engines.now c.take_turn.new.engines xs y z c.requires.run c.requires.sessions place
    c.take_turn.ensures.number c.take_turn.ensures.killed c.take_turn.ensures.did c.take_turn.ensures.done c.take_turn.ensures.quiet c.take_turn.ensures.still in
    t.counts

pub returns-clause-asked : goal.returns-clause-asked
returns-clause-asked g c =
    let script = g.N.Name.script in
    let from = g.N.Name.from in
    let h = past c.args.journal.now in
    let xs = c.args.sessions.now.items in
    let y = c.index_mut-session.result.now in
    let z = c.take_turn.new.session in
    let place = at_place script h xs c.number.inside.0 c.args.number y c.requires.sessions c.number.view_is c.requires.known c.index_mut-session.ensures.value in
    let t = turned script from c.args.number c.take_turn.result h (past c.take_turn.new.journal) c.args.engines.now c.take_turn.new.engines xs y z c.requires.run c.requires.sessions place
    c.take_turn.ensures.number c.take_turn.ensures.killed c.take_turn.ensures.did c.take_turn.ensures.done c.take_turn.ensures.quiet c.take_turn.ensures.still in
    t.asked

pub returns-clause-asks_once : goal.returns-clause-asks_once
returns-clause-asks_once g c =
    let script = g.N.Name.script in
    let from = g.N.Name.from in
    let h = past c.args.journal.now in
    let xs = c.args.sessions.now.items in
    let y = c.index_mut-session.result.now in
    let z = c.take_turn.new.session in
    let place = at_place script h xs c.number.inside.0 c.args.number y c.requires.sessions c.number.view_is c.requires.known c.index_mut-session.ensures.value in
    let t = turned script from c.args.number c.take_turn.result h (past c.take_turn.new.journal) c.args.engines.now c.take_turn.new.engines xs y z c.requires.run c.requires.sessions place
    c.take_turn.ensures.number c.take_turn.ensures.killed c.take_turn.ensures.did c.take_turn.ensures.done c.take_turn.ensures.quiet c.take_turn.ensures.still in
    t.asks_once

pub returns-clause-fault : goal.returns-clause-fault
returns-clause-fault g c =
    let script = g.N.Name.script in
    let from = g.N.Name.from in
    let h = past c.args.journal.now in
    let xs = c.args.sessions.now.items in
    let y = c.index_mut-session.result.now in
    let z = c.take_turn.new.session in
    let place = at_place script h xs c.number.inside.0 c.args.number y c.requires.sessions c.number.view_is c.requires.known c.index_mut-session.ensures.value in
    let t = turned script from c.args.number c.take_turn.result h (past c.take_turn.new.journal) c.args.engines.now c.take_turn.new.engines xs y z c.requires.run c.requires.sessions place
    c.take_turn.ensures.number c.take_turn.ensures.killed c.take_turn.ensures.did c.take_turn.ensures.done c.take_turn.ensures.quiet c.take_turn.ensures.still in
    t.fault

pub returns-clause-inside : goal.returns-clause-inside
returns-clause-inside g c =
    let script = g.N.Name.script in
    let from = g.N.Name.from in
    let h = past c.args.journal.now in
    let xs = c.args.sessions.now.items in
    let y = c.index_mut-session.result.now in
    let z = c.take_turn.new.session in
    let place = at_place script h xs c.number.inside.0 c.args.number y c.requires.sessions c.number.view_is c.requires.known c.index_mut-session.ensures.value in
    let t = turned script from c.args.number c.take_turn.result h (past c.take_turn.new.journal) c.args.engines.now c.take_turn.new.engines xs y z c.requires.run c.requires.sessions place
    c.take_turn.ensures.number c.take_turn.ensures.killed c.take_turn.ensures.did c.take_turn.ensures.done c.take_turn.ensures.quiet c.take_turn.ensures.still in
    t.inside

pub returns-clause-dead : goal.returns-clause-dead
returns-clause-dead g c = λ k.
    let h = past c.args.journal.now in
    let xs = c.args.sessions.now.items in
    let y = c.index_mut-session.result.now in
    let place = at_place g.N.Name.script h xs c.number.inside.0 c.args.number y c.requires.sessions c.number.view_is c.requires.known c.index_mut-session.ensures.value in
    c.take_turn.ensures.dead (c.requires.sessions.killed c.args.number y place ∙ k)
