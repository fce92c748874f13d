use Rattle.std.proofs.Common.{◌≡◌, Some, sym, subst}
use Rattle.std.specs.Prelude.{slice_get, slice_set}
use Rattle.hib_journal.specs.Sessions.{own}
use Rattle.hib_session.specs.Session.{Follows}
use Rattle.hib_bulk_law.specs.Plain.{plain}
use Rattle.hib_bulk.specs.Kept.{past}
use Rattle.hib_bulk.specs.Steps.{AreSessions}
use Rattle.hib_bulk.proofs.Stepped.{turned, session_at}
use Rattle.hib_bulk.proofs.steps.step_session.Goals as goal

pub take_turn-requires-clause-follows : goal.take_turn-requires-clause-follows
take_turn-requires-clause-follows g c =
    let script = g.N.Name.script in
    let h = past c.args.journal.now in
    let xs = c.args.sessions.now.items in
    let y = c.index_mut-session.result.now in
    let place : slice_get xs c.args.number ≡ Some y = session_at script h xs c.number.inside.0 c.args.number y c.requires.sessions c.number.view_is c.requires.known c.index_mut-session.ensures.value in
    subst (λ n. Follows script y (own n (plain h))) (sym (c.requires.sessions.numbers c.args.number y place)) (c.requires.sessions.follow c.args.number y place)

pub returns-clause-turned : goal.returns-clause-turned
returns-clause-turned g c =
    let script = g.N.Name.script in
    let lines = g.N.Name.lines in
    let from = g.N.Name.from in
    let h = past c.args.journal.now in
    let xs = c.args.sessions.now.items in
    let y = c.index_mut-session.result.now in
    let z = c.take_turn.new.session in
    let place : slice_get xs c.args.number ≡ Some y = session_at script h xs c.number.inside.0 c.args.number y c.requires.sessions c.number.view_is c.requires.known c.index_mut-session.ensures.value in
    let t = turned script lines from c.args.number c.take_turn.result h (past c.take_turn.new.journal) c.args.parts.now c.take_turn.new.parts xs y z c.requires.known c.requires.run c.requires.sessions place
    c.take_turn.ensures.number c.take_turn.ensures.did c.take_turn.ensures.done c.take_turn.ensures.still in
    t.turned

pub returns-clause-sessions : goal.returns-clause-sessions
returns-clause-sessions g c =
    let script = g.N.Name.script in
    let lines = g.N.Name.lines in
    let from = g.N.Name.from in
    let h = past c.args.journal.now in
    let xs = c.args.sessions.now.items in
    let y = c.index_mut-session.result.now in
    let z = c.take_turn.new.session in
    let place : slice_get xs c.args.number ≡ Some y = session_at script h xs c.number.inside.0 c.args.number y c.requires.sessions c.number.view_is c.requires.known c.index_mut-session.ensures.value in
    let t = turned script lines from c.args.number c.take_turn.result h (past c.take_turn.new.journal) c.args.parts.now c.take_turn.new.parts xs y z c.requires.known c.requires.run c.requires.sessions place
    c.take_turn.ensures.number c.take_turn.ensures.did c.take_turn.ensures.done c.take_turn.ensures.still in
    subst (λ n. AreSessions script (past c.take_turn.new.journal) (slice_set xs n z)) (sym c.number.view_is) t.sessions

pub returns-clause-lines : goal.returns-clause-lines
returns-clause-lines g c =
    let script = g.N.Name.script in
    let lines = g.N.Name.lines in
    let from = g.N.Name.from in
    let h = past c.args.journal.now in
    let xs = c.args.sessions.now.items in
    let y = c.index_mut-session.result.now in
    let z = c.take_turn.new.session in
    let place : slice_get xs c.args.number ≡ Some y = session_at script h xs c.number.inside.0 c.args.number y c.requires.sessions c.number.view_is c.requires.known c.index_mut-session.ensures.value in
    let t = turned script lines from c.args.number c.take_turn.result h (past c.take_turn.new.journal) c.args.parts.now c.take_turn.new.parts xs y z c.requires.known c.requires.run c.requires.sessions place
    c.take_turn.ensures.number c.take_turn.ensures.did c.take_turn.ensures.done c.take_turn.ensures.still in
    t.rest
