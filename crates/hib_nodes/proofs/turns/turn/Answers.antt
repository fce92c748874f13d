use Rattle.std.proofs.Common.{◌≡◌, ◌<◌, Some, length, sym, ap, subst, ◌∙◌}
use Rattle.std.specs.Prelude.{slice_get, slice_set}
use Rattle.hib_journal.specs.Sessions.{own}
use Rattle.hib_session.specs.Session.{Follows}
use Rattle.hib_nodes_law.specs.Nodes.{entries}
use Rattle.hib_nodes_law.specs.Legal.{node_of}
use Rattle.hib_nodes.specs.Kept.{past}
use Rattle.hib_nodes.specs.Shared.{AreSessions}
use Rattle.hib_nodes.proofs.Stepped.{turned, session_at}
use Rattle.hib_nodes.proofs.turns.turn.Goals as goal

pub take_turn-requires-clause-node : goal.take_turn-requires-clause-node
take_turn-requires-clause-node g c =
    let script = g.N.Name.script in
    let h = past c.args.shared.now.journal in
    let xs = c.args.sessions.now.items in
    let y = c.index_mut-session.result.now in
    let place : slice_get xs c.args.number ≡ Some y = session_at script h xs c.number.inside.0 c.args.number y c.requires.sessions c.number.view_is c.requires.known c.index_mut-session.ensures.value in
    c.requires.node ∙ ap (node_of g.N.Name.places) (sym (c.requires.sessions.numbers c.args.number y place))

pub take_turn-requires-clause-known : goal.take_turn-requires-clause-known
take_turn-requires-clause-known g c =
    let script = g.N.Name.script in
    let h = past c.args.shared.now.journal in
    let xs = c.args.sessions.now.items in
    let y = c.index_mut-session.result.now in
    let place : slice_get xs c.args.number ≡ Some y = session_at script h xs c.number.inside.0 c.args.number y c.requires.sessions c.number.view_is c.requires.known c.index_mut-session.ensures.value in
    subst (λ n. n < length script.sessions) (sym (c.requires.sessions.numbers c.args.number y place)) c.requires.known

pub take_turn-requires-clause-follows : goal.take_turn-requires-clause-follows
take_turn-requires-clause-follows g c =
    let script = g.N.Name.script in
    let h = past c.args.shared.now.journal in
    let xs = c.args.sessions.now.items in
    let y = c.index_mut-session.result.now in
    let place : slice_get xs c.args.number ≡ Some y = session_at script h xs c.number.inside.0 c.args.number y c.requires.sessions c.number.view_is c.requires.known c.index_mut-session.ensures.value in
    subst (λ n. Follows script y (own n (entries h))) (sym (c.requires.sessions.numbers c.args.number y place)) (c.requires.sessions.follow c.args.number y place)

pub returns-clause-turned : goal.returns-clause-turned
returns-clause-turned g c =
    let script = g.N.Name.script in
    let h = past c.args.shared.now.journal in
    let xs = c.args.sessions.now.items in
    let y = c.index_mut-session.result.now in
    let place : slice_get xs c.args.number ≡ Some y = session_at script h xs c.number.inside.0 c.args.number y c.requires.sessions c.number.view_is c.requires.known c.index_mut-session.ensures.value in
    (turned script g.N.Name.places g.N.Name.from c.args.number c.take_turn.result c.args.shared.now c.take_turn.new.shared xs y c.take_turn.new.session c.requires.shared c.requires.sessions place
    c.take_turn.ensures.did c.take_turn.ensures.done c.take_turn.ensures.rests c.take_turn.ensures.left).turned

pub returns-clause-sessions : goal.returns-clause-sessions
returns-clause-sessions g c =
    let script = g.N.Name.script in
    let h = past c.args.shared.now.journal in
    let xs = c.args.sessions.now.items in
    let y = c.index_mut-session.result.now in
    let z = c.take_turn.new.session in
    let place : slice_get xs c.args.number ≡ Some y = session_at script h xs c.number.inside.0 c.args.number y c.requires.sessions c.number.view_is c.requires.known c.index_mut-session.ensures.value in
    let t = turned script g.N.Name.places g.N.Name.from c.args.number c.take_turn.result c.args.shared.now c.take_turn.new.shared xs y z c.requires.shared c.requires.sessions place
    c.take_turn.ensures.did c.take_turn.ensures.done c.take_turn.ensures.rests c.take_turn.ensures.left in
    subst (λ n. AreSessions script (past c.take_turn.new.shared.journal) (slice_set xs n z)) (sym c.number.view_is) t.sessions
